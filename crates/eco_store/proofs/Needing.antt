-- The arity of an id, as the store shows it, is no more than the tables keep.
use Rattle.eco_store.proofs.Common.{◌≡◌, ◌≤◌, ◌==◌, ◌&&◌, ℕ, Bool, true, false, cond, IsTrue, List, Option, None, Some, unwrap_or}
use Rattle.eco_store.proofs.Common.{option_map, option_and_then, if◌then◌else◌, refl, sym, ap, ◌∙◌, subst, arith, slice_get, is_some, nat_lt}
use Rattle.eco_store.proofs.Common.{MatchBool, Result, option_or, slice_get-map, Admits, may_admit, Indexed, IndexState, Retired, Free, Living, changed}
use Rattle.eco_store.proofs.Common.{change_kept, map_state, record_in, record_of, Meets, is_out_of_memory, Record, Entity, Id, Refusal, Value, first, Place}
use Rattle.eco_store.proofs.Common.{fields_for, need, need_in, need_of, NeedsNeverGrow, Registration, placed, Call, SetPlace, LeadsTo, fixed, TableState}
use Rattle.eco_store.proofs.Common.{row_at, Transfer, placed_after, with_places, arity_in_store, fits_in_store, own_arity_in_store, read, record_for}
use Rattle.eco_store.proofs.Common.{MeetsNeeds, FitsIn, lowered, zero_later, ◌∷◌, [], length, suc, table_in, true≢false, zero}
use Rattle.std.specs.Prelude.{pos, replicate}
use Rattle.eco_ids.specs.Data.{is_zero_past}
use Rattle.eco_tables.proofs.Runs.{zeros_past}
use Rattle.eco_tables.specs.Table.{StoresFields}
use Rattle.eco_ids.specs.declared.id.Id.TheVariants.{One, Two}
use Rattle.eco_ids.specs.declared.value.TheConstants.{FIELD_COUNT}

own_needed : (w : Indexed Registration) (s : List (Option TableState)) (e : Entity) → fields_for (own_arity_in_store (read w s) e) ≤ need_of w e
own_needed w s e = rw (slice_get-map (map_state (record_for (row_at s))) w.indices e.index) (by (slice_get w.indices e.index))
  where
    by : (o : Option (IndexState Registration))
        → fields_for (option_and_then (λ (r : Record). r.arity) (record_in (option_map (map_state (record_for (row_at s))) o) e.generation))
        ≤ need_in o e.generation
    by None = omega arith
    by (Some Retired) = omega arith
    by (Some (Free f)) = omega arith
    by (Some (Living f r)) = here (e.generation == f)
      where
        here : (b : Bool)
            → fields_for (option_and_then (λ (x : Record). x.arity) (cond b (Some (record_for (row_at s) r)) None))
            ≤ cond b (fields_for r.arity) (cond (nat_lt e.generation f) 0 FIELD_COUNT)
        here true = omega arith
        here false = omega arith

pub needed : (w : Indexed Registration) (s : List (Option TableState)) (i : Id) → fields_for (arity_in_store (read w s) i) ≤ need w i
needed w s (One e) = own_needed w s e
needed w s (Two r t) = by (own_arity_in_store (read w s) r) (own_needed w s r) (own_needed w s t)
  where
    by : (o : Option ℕ) → fields_for o ≤ need_of w r → fields_for (own_arity_in_store (read w s) t) ≤ need_of w t
        → fields_for (option_or o (own_arity_in_store (read w s) t)) ≤ need w (Two r t)
    by None a b = omega (arith, b)
    by (Some n) a b = omega (arith, a)

-- one field of 1
abbrev one_field : Value
one_field = record { 0 = pos 1 ∷ replicate 7 (pos 0) }

one_fits : (arity : ℕ) → 1 ≤ arity → IsTrue (is_zero_past arity one_field)
one_fits zero some = absurd (omega (arith, some))
one_fits (suc a) some = zeros_past a 7 [] (omega arith)

some_fields : (o : Option ℕ) → IsTrue ((length one_field.0 == FIELD_COUNT) && is_zero_past (unwrap_or o 0) one_field) → 1 ≤ fields_for o
some_fields None h = absurd (true≢false (sym h))
some_fields (Some zero) h = absurd (true≢false (sym h))
some_fields (Some (suc m)) h = omega arith

-- where a field of the id may be other than 0, the tables that have the id keep it
pub keeps_fields : (w : Indexed Registration) (s : List (Option TableState)) (n : ℕ) (i : Id) (arity : ℕ) → MeetsNeeds (need w) s → 1 ≤ arity
    → ((v : Value) → length v.0 ≡ FIELD_COUNT → IsTrue (is_zero_past arity v) → IsTrue (fits_in_store (read w s) i v)) → StoresFields (table_in s n) i
keeps_fields w s n i arity covers some fits k at =
    let least = covers.each n i k at in
    let enough = needed w s i in
    let one = some_fields (arity_in_store (read w s) i) (fits one_field refl (one_fits arity some)) in
    omega (arith, least, enough, one)

-- a value that fits the arity fits in the tables
pub fits_in : (w : Indexed Registration) (s : List (Option TableState)) (i : Id) (v : Value) → MeetsNeeds (need w) s → IsTrue (fits_in_store (read w s) i v)
    → FitsIn s i v
fits_in w s i v covers fit = (need w, covers, zero_later (unwrap_or (arity_in_store (read w s) i) 0) (need w i) v fit (needed w s i))

-- an admission may want memory where it admits some
pub admits : (w w1 : Indexed Registration) (n : ℕ) (some : Bool) (r : Result (Unit {0}) Refusal) → Meets (Admits w n) (may_admit w n && some) w r w1
    → Meets (Admits w n) (may_admit w n) w r w1
admits w w1 n some r h = by (is_out_of_memory r) h
  where
    by : (b : Bool) → MatchBool b (IsTrue (may_admit w n && some) × (w1 ≡ w)) (Admits w n r w1)
        → MatchBool b (IsTrue (may_admit w n) × (w1 ≡ w)) (Admits w n r w1)
    by true q = (first (may_admit w n) some q.0, q.1)
    by false q = q

-- who has another place needs what it needed
need_mapped : (f : Registration → Registration) → ((r : Registration) → (f r).arity ≡ r.arity) → (o : Option (IndexState Registration)) (g : ℕ)
    → need_in (option_map (map_state f) o) g ≡ need_in o g
need_mapped f same None g = refl
need_mapped f same (Some Retired) g = refl
need_mapped f same (Some (Free k)) g = refl
need_mapped f same (Some (Living k r)) g = ap (λ a. if g == k then fields_for a else (if nat_lt g k then 0 else FIELD_COUNT)) (same r)

module _ (w : Indexed Registration) (t : Transfer) (end count : ℕ) where
  need_moved : (e : Entity) → need_of (with_places w t end count) e ≡ need_of w e
  need_moved e =
      ap (λ o. need_in o e.generation) (slice_get-map (map_state (placed_after t end count)) w.indices e.index)
      ∙ need_mapped (placed_after t end count) (λ r. refl) (slice_get w.indices e.index) e.generation

  moved_less : (i : Id) → need (with_places w t end count) i ≤ need w i
  moved_less (One e) = omega (arith, need_moved e)
  moved_less (Two r u) = omega (arith, need_moved r, need_moved u)

pub moved_covers : (w w1 : Indexed Registration) (s : List (Option TableState)) (t : Transfer) (end count : ℕ) → w1 ≡ with_places w t end count
    → MeetsNeeds (need w) s → MeetsNeeds (need w1) s
moved_covers w w1 s t end count is = lowered w w1 s (λ i. rw is (moved_less w t end count i))

-- ---- places

module _ (law : NeedsNeverGrow) where
  -- who is placed needs no more
  placed_less : (w : Indexed Registration) (e : Entity) (p : Place) (i : Id) → need (changed w e (placed p)) i ≤ need w i
  placed_less w e p i = by (record_of w e) refl
    where
      by : (o : Option Registration) → record_of w e ≡ o → need (change_kept w e (placed p) o) i ≤ need w i
      by None h = omega arith
      by (Some r) h =
          law w (change_kept w e (placed p) (Some r)) (SetPlace e p) (ap is_some h, ap (change_kept w e (placed p)) (sym h)) i

  pub placed_covers : (w w1 : Indexed Registration) (s : List (Option TableState)) (e : Entity) (p : Place) → w1 ≡ changed w e (placed p)
      → MeetsNeeds (need w) s → MeetsNeeds (need w1) s
  placed_covers w w1 s e p is = lowered w w1 s (λ i. rw is (placed_less w e p i))

  pub fixed_covers : (w w1 : Indexed Registration) (s : List (Option TableState)) (moved : Option Entity) (p : Place) → w1 ≡ fixed w moved p
      → MeetsNeeds (need w) s → MeetsNeeds (need w1) s
  fixed_covers w w1 s None p is = subst (λ v. MeetsNeeds (need v) s) (sym is)
  fixed_covers w w1 s (Some e) p is = placed_covers w w1 s e p is

  -- a call needs no more
  pub called : (c : Call) (w w1 : Indexed Registration) (s : List (Option TableState)) → LeadsTo c w w1 → MeetsNeeds (need w) s → MeetsNeeds (need w1) s
  called c w w1 s leads = lowered w w1 s (law w w1 c leads)
