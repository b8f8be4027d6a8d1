-- The parts of a layout agree after a step of a call, and what is seen of it.
use Rattle.eco_store.proofs.Common.{◌≡◌, ℕ, List, [], ◌∷◌, IsTrue, Option, None, is_some, unwrap_or, nat_eq, slice_get, refl, sym, ap, subst}
use Rattle.eco_store.proofs.Common.{◌∙◌, true≢false, Result, Err, Some, length, none-some, list_any, Entity, Id, Indexed}
use Rattle.eco_store.proofs.Common.{changed, Record, TableState, width_in, new_row, no_table, rowless_type, slot_of, table_in, with_row}
use Rattle.eco_store.proofs.Common.{SetsSlot, need, Registration, Place, type_at, RowlessIn, SameRows, SameSlots, MeetsNeeds, StillCover}
use Rattle.eco_store.proofs.Common.{rows_from_slots, then_rows, typed_table, Layout, rows_in, seen, Carries, IsLaid, IsLaidBeside, IsLaidBut, IsSettled, Plans}
use Rattle.eco_store.proofs.Common.{PutsRow, StayingState, all_staying, only_idle, with_target, HasPlace, IsStore, Tries, read, seat_in, with_type}
use Rattle.eco_store.proofs.Coming.{admits_none}
use Rattle.eco_store.proofs.LaidRows.{row_puts, rows_alike}
use Rattle.eco_store.proofs.Rowless.{rowless_filled, rowless_targeted}
use Rattle.eco_store.proofs.StoreChanges.{same_read, same_store}
use Rattle.eco_store.proofs.Taking.{rowless_slots}
use Rattle.eco_store.proofs.Targets.{still_targeted}

-- the same entities stand in the same rows
pub seen_alike : (w : Indexed Registration) (s : List (Option TableState)) (l : Layout) → l.entities ≡ w → SameRows s l.archetypes → seen l ≡ read w s
seen_alike w s l same rows = ap (λ v. read v l.archetypes) same ∙ same_read w s l.archetypes rows

pub laid_alike : (l : Layout) (s : List (Option TableState)) (q : StayingState) (xs ys : List ℕ) → IsLaidBut l xs → SameRows l.archetypes s
    → StillCover l.entities l.archetypes s → RowlessIn s ys → IsLaidBut (record { entities = l.entities; archetypes = s; staying = q }) ys
laid_alike l s q xs ys laid rows widths tidy = record {
  store = same_store l.entities l.archetypes s rows laid.store;
  covers = widths laid.covers;
  tidy = tidy;
}

-- no slot has changed
pub laid_slots : (l : Layout) (s : List (Option TableState)) → IsLaid l → StillCover l.entities l.archetypes s → SameSlots l.archetypes s
    → IsLaid (record { entities = l.entities; archetypes = s; staying = l.staying })
laid_slots l s laid widths same =
    laid_alike l s l.staying _ _ laid (rows_from_slots _ _ same) widths (rowless_slots l.archetypes s (all_staying l.staying) same laid.tidy)

-- ---- a table is sought for an entity that goes there: no row has changed

module _ (l : Layout) (s : List (Option TableState)) (rows : SameRows l.archetypes s) where
  abbrev pub sought : Layout
  sought = record { entities = l.entities; archetypes = s; staying = l.staying }

  -- none was found
  pub sought_settled : IsSettled l → StillCover l.entities l.archetypes s → ((slots : List ℕ) → RowlessIn l.archetypes slots → RowlessIn s slots)
      → IsSettled sought
  sought_settled settled widths rowless = record {
    laid = laid_alike l s l.staying _ _ settled.laid rows widths (rowless (all_staying l.staying) settled.laid.tidy);
    done = settled.done;
  }

  -- one was
  pub sought_laid : IsLaid l → StillCover l.entities l.archetypes s → (n : ℕ)
      → ((slots : List ℕ) → RowlessIn l.archetypes slots → RowlessIn s (n ∷ slots)) → IsLaidBeside sought n
  sought_laid laid widths n rowless = laid_alike l s l.staying _ _ laid rows widths (rowless (all_staying l.staying) laid.tidy)

  -- who goes there has its type
  pub sought_seen : (v : Indexed Record) (n : ℕ) (e : Entity) (ids : List Id) → type_at s n ≡ Some ids
      → v ≡ changed (seen sought) e (with_type (table_in s n).ids) → v ≡ changed (seen l) e (with_type ids)
  sought_seen v n e ids typed is =
      is ∙ (λ t. changed (same_read l.entities l.archetypes s rows t) e (with_type (typed_table s n ids typed t)))

-- memory was refused
pub tried_none : {A E : Type 0} (v w : Indexed Record) (r : Result A E) (e : E) (new : Indexed Record) → r ≡ Err e → new ≡ v → Tries v w r new
tried_none v w r e new is same = subst (λ x. Tries v w x new) (sym is) (record { ok = tt; err = same })

-- a row came to the end of a table that was found for it
module _ (l : Layout) (s s1 : List (Option TableState)) (p : Place) (e : Entity) (ids : List Id) (rows : SameRows l.archetypes s)
    (typed : type_at s p.table ≡ Some ids) (end : p.row ≡ length (rows_in s p.table))
    (pushed : SetsSlot s s1 p.table (Some (with_row (table_in s p.table) (new_row e)))) where
  pub found_puts : PutsRow (rows_in l.archetypes) (rows_in s1) p e ids
  found_puts =
      subst (λ R. PutsRow R (rows_in s1) p e ids) (rows_alike l.archetypes s rows) (row_puts s s1 p e ids (typed_table s p.table ids typed) end pushed)

  pub found_laid : (w : Indexed Registration) → IsStore w s1 → MeetsNeeds (need w) s1 → RowlessIn s (p.table ∷ all_staying l.staying)
      → IsLaid (record { entities = w; archetypes = s1; staying = l.staying })
  found_laid w store covers tidy = record {
    store = store;
    covers = covers;
    tidy = rowless_filled s s1 p.table (all_staying l.staying) (table_in s p.table) (new_row e) pushed tidy;
  }

-- nobody lives, and there is no table
pub laid_empty : (w : Indexed Registration) (s : List (Option TableState)) (p : StayingState) → w.indices ≡ [] → ((n : ℕ) → slot_of s n ≡ None)
    → IsLaid (record { entities = w; archetypes = s; staying = p })
laid_empty w s p nobody nothing = record {
  store = record {
    seated = record {
      there = λ i x is. absurd (none-some x (sym (ap (λ xs. seat_in (slice_get xs i)) nobody) ∙ is));
      back = λ n row r is. absurd (none-some r (sym (ap (λ o. slice_get (unwrap_or o no_table).rows row) (nothing n)) ∙ is));
    };
    placed = λ i. subst (λ xs. HasPlace (slice_get xs i)) (sym nobody) tt;
  };
  covers = record { each = λ n i k is. absurd (none-some k (sym (ap (λ o. width_in (unwrap_or o no_table) i) (nothing n)) ∙ is)) };
  tidy = λ n there. absurd (true≢false (sym there ∙ ap (λ o. is_some (rowless_type o)) (nothing n)));
}

-- ---- no call is under way

pub only_idle_stay : (s : List (Option TableState)) (p : StayingState) (idle : List ℕ) → p ≡ only_idle idle → RowlessIn s idle
    → RowlessIn s (all_staying p)
only_idle_stay s p idle nothing few = subst (λ (q : StayingState). RowlessIn s (all_staying q)) (sym nothing) few

pub done_idle : (p : StayingState) (idle : List ℕ) → p ≡ only_idle idle → p ≡ only_idle p.idle
done_idle p idle nothing = nothing ∙ ap only_idle (sym (ap (λ (q : StayingState). q.idle) nothing))

-- other tables are the idle ones
pub still_settled : (l m : Layout) → m.staying ≡ record l.staying { idle = m.staying.idle } → IsSettled l → IsLaid m → IsSettled m
still_settled l m same settled laid = record { laid = laid; done = same ∙ (λ t. record (settled.done t) { idle = m.staying.idle }) }

-- ---- plans

module _ (l : Layout) (laid : IsLaid l) where
  pub plans_none : Plans l l
  plans_none = record { laid = laid; entities = refl; rows = λ n k. refl; targets = λ n was. was }

  pub carries_none : (to : ℕ) → Carries l l to
  carries_none to = record { laid = laid; staying = refl; admits = admits_none l.archetypes l.staying.targets to }

  module _ (s : List (Option TableState)) (q : StayingState) (rows : SameRows l.archetypes s) (widths : StillCover l.entities l.archetypes s) where
    -- no target came
    pub plans_same : RowlessIn s (all_staying l.staying) → q ≡ l.staying → Plans l (record { entities = l.entities; archetypes = s; staying = q })
    plans_same tidy same = record {
      laid = laid_alike l s q _ _ laid rows widths (subst (λ p. RowlessIn s (all_staying p)) (sym same) tidy);
      entities = refl;
      rows = rows;
      targets = λ n was. subst (λ (p : StayingState). IsTrue (list_any (nat_eq n) p.targets)) (sym same) was;
    }

    -- one did
    pub plans_target : (n : ℕ) → RowlessIn s (n ∷ all_staying l.staying) → q ≡ with_target l.staying n
        → Plans l (record { entities = l.entities; archetypes = s; staying = q })
    plans_target n tidy more = record {
      laid = laid_alike l s q _ _ laid rows widths (subst (λ p. RowlessIn s (all_staying p)) (sym more) (rowless_targeted s l.staying n tidy));
      entities = refl;
      rows = rows;
      targets = λ m was. subst (λ (p : StayingState). IsTrue (list_any (nat_eq m) p.targets)) (sym more) (still_targeted l.staying n m was);
    }

pub plans_then : (l m n : Layout) → Plans l m → Plans m n → Plans l n
plans_then l m n a b = record {
  laid = b.laid;
  entities = b.entities ∙ a.entities;
  rows = then_rows l.archetypes m.archetypes n.archetypes a.rows b.rows;
  targets = λ k was. b.targets k (a.targets k was);
}

-- and then room was taken
pub plans_reserved : (l m : Layout) → Plans l m → (s : List (Option TableState)) → SameRows m.archetypes s → StillCover m.entities m.archetypes s
    → ((slots : List ℕ) → RowlessIn m.archetypes slots → RowlessIn s slots)
    → Plans l (record { entities = m.entities; archetypes = s; staying = m.staying })
plans_reserved l m plans s rows widths rowless =
    plans_then l m _ plans (plans_same m plans.laid s m.staying rows widths (rowless (all_staying m.staying) plans.laid.tidy) refl)

pub plans_seen : (l m : Layout) → Plans l m → seen m ≡ seen l
plans_seen l m plans = seen_alike l.entities l.archetypes m plans.entities plans.rows
