-- Two entities step, and the table that the second one goes to is taken before the first step.
use Rattle.eco_store.proofs.Common.{◌≡◌, ◌≢◌, ℕ, ◌+◌, ◌≤◌, Bool, true, false, IsTrue, if◌then◌else◌, List, [], ◌∷◌}
use Rattle.eco_store.proofs.Common.{slice_get, Option, Some, option_map, unwrap_or, nat_eq, refl, sym, ap, ◌∙◌, arith, Result, Ok, Err, IfOk, OnErr}
use Rattle.eco_store.proofs.Common.{MatchBool, list_any, set_comm, Entity, Id, changed, change_kept, is_alive, record_in, record_of, with_record, Indexed}
use Rattle.eco_store.proofs.Common.{Living, slice_get-set_other, living_at, same_parts, Place, Registration, own_place, retyped, TableState, table_in}
use Rattle.eco_store.proofs.Common.{no_table, AllHaveIds, toggled, KeepsRoom, KeepsTypes, MayTakeType, SameSlots, StillCover, rows_from_slots, Layout, seen}
use Rattle.eco_store.proofs.Common.{IsLaid, arriving, AdmitsRow, LeavesRoom, TurnsTable, all_staying, read, record_ids, stepped, type_in_store, with_toggled}
use Rattle.eco_store.proofs.Laid.{laid_slots}
use Rattle.eco_store.proofs.Stepping.{leads_to, standing_type}
use Rattle.eco_archetypes.proofs.Seated.{row_within, alive_same}
use Rattle.eco_store.proofs.StoreChanges.{same_read}
use Rattle.eco_store.proofs.Taking.{takes_row, takes_rowless}
use Rattle.eco_store.proofs.Values.{written_read, written_store}
use Rattle.eco_store.proofs.Views.{alive_record}

-- ---- two entities

other_index : {A : Type 0} (w : Indexed A) (a b : Entity) → IsTrue (is_alive w a) → IsTrue (is_alive w b) → a ≢ b → a.index ≢ b.index
other_index w a b lives also apart same =
    let x = alive_record w a lives in
    let y = alive_record w b also in
    let both = sym (living_at w a x.0 x.1) ∙ ap (slice_get w.indices) same ∙ living_at w b y.0 y.1 in
    let generations : a.generation ≡ b.generation = cc in
    apart (same_parts a b same generations)

-- where one of them changes, the other stays as it was
other_kept : {A : Type 0} (w : Indexed A) (a b : Entity) (f : A → A) → IsTrue (is_alive w a) → IsTrue (is_alive w b) → a ≢ b
    → record_of (changed w a f) b ≡ record_of w b
other_kept w a b f lives also apart =
    let x = alive_record w a lives in
    ap (λ o. record_of (change_kept w a f o) b) x.1
    ∙ ap (λ o. record_in o b.generation)
    (slice_get-set_other w.indices a.index b.index (Living a.generation (f x.0)) (λ same. other_index w a b lives also apart (sym same)))

-- it is the same which of them changes first
other_way : {A : Type 0} (w : Indexed A) (a b : Entity) (f g : A → A) → IsTrue (is_alive w a) → IsTrue (is_alive w b) → a ≢ b
    → changed (changed w a f) b g ≡ changed (changed w b g) a f
other_way w a b f g lives also apart =
    let x = alive_record w a lives in
    let y = alive_record w b also in
    let way = set_comm w.indices a.index b.index (Living a.generation (f x.0)) (Living b.generation (g y.0)) (other_index w a b lives also apart) in
    ap (change_kept (changed w a f) b g) (other_kept w a b f lives also apart ∙ y.1)
    ∙ ap (λ o. with_record (change_kept w a f o) b (g y.0)) x.1
    ∙ (λ t. record w { indices = way t })
    ∙ sym (ap (change_kept (changed w b g) a f) (other_kept w b a g also lives (λ same. apart (sym same)) ∙ x.1)
    ∙ ap (λ o. with_record (change_kept w b g o) a (f x.0)) y.1)

module _ (w : Indexed Registration) (s : List (Option TableState)) where
  lives_there : (e : Entity) → IsTrue (is_alive w e) → IsTrue (is_alive (read w s) e)
  lives_there e lives = alive_same w s e ∙ lives

  pub steps_other_way : (a b : Entity × Id) → IsTrue (is_alive w a.0) → IsTrue (is_alive w b.0) → a.0 ≢ b.0
      → stepped (stepped (read w s) a) b ≡ stepped (stepped (read w s) b) a
  steps_other_way a b lives also apart =
      other_way (read w s) a.0 b.0 (with_toggled a.1) (with_toggled b.1) (lives_there a.0 lives) (lives_there b.0 also) apart

  -- the type of one stays while another steps
  pub type_beside : (first : Entity × Id) (e : Entity) (ids : List Id) → IsTrue (is_alive w first.0) → IsTrue (is_alive w e) → first.0 ≢ e
      → type_in_store (read w s) e ≡ Some ids → type_in_store (stepped (read w s) first) e ≡ Some ids
  type_beside first e ids lives also apart typed =
      ap (option_map record_ids) (other_kept (read w s) first.0 e (with_toggled first.1) (lives_there first.0 lives) (lives_there e also) apart) ∙ typed

-- ---- the table of who stands alone

module _ (l : Layout) (s : List (Option TableState)) (e : Entity) (p : Place) (i : Id) (laid : IsLaid l) (own : own_place l.entities e ≡ Some p)
    (had : AllHaveIds l.archetypes) (widths : StillCover l.entities l.archetypes s) where
  abbrev pub turned : Layout
  turned = record { entities = l.entities; archetypes = s; staying = l.staying }

  abbrev ids : List Id
  ids = toggled (table_in l.archetypes p.table).ids i

  -- it takes the entity's next type, or stays as it was
  pub may_turn : {E : Type 0} (r : Result Bool E) → IfOk r (MayTakeType l.archetypes s p.table ids) → OnErr r (SameSlots l.archetypes s)
      → TurnsTable l turned (e, i) p.table r
  may_turn (Ok true) takes err =
      let retypes = takes_row l.archetypes s p ids takes.0 takes.1 (row_within l.entities l.archetypes e p laid.store own) in
      record {
        laid = record {
          store = written_store l.entities l.archetypes s e p (retyped ids) laid.store own retypes;
          covers = widths laid.covers;
          tidy = takes_rowless l.archetypes s p.table ids takes.0 takes.1 (all_staying l.staying) laid.tidy;
        };
        took =
            written_read l.entities l.archetypes s e p (retyped ids) laid.store own retypes
            ∙ leads_to (seen l) e _ (standing_type l.entities l.archetypes e p laid.store own had) (λ xs. toggled xs i);
        entities = refl;
        staying = refl;
        others = takes.0.others;
        err = tt;
      }
  may_turn (Ok false) same err = record {
    laid = laid_slots l s laid widths same;
    took = same;
    entities = refl;
    staying = refl;
    others = λ m other. same m;
    err = tt;
  }
  may_turn (Err refused) ok same = record {
    laid = laid_slots l s laid widths same;
    took = tt;
    entities = refl;
    staying = refl;
    others = λ m other. same m;
    err = same_read l.entities l.archetypes s (rows_from_slots _ _ same);
  }

pub not_turned : (P Q : Type 0) (took : Bool) → took ≡ false → MatchBool took P Q → Q
not_turned P Q true is h = absurd (cc)
not_turned P Q false is h = h

-- ---- the table that is kept

few_arrive : (to n : ℕ) → arriving (to ∷ []) n ≤ 1
few_arrive to n = by (nat_eq to n)
  where
    by : (b : Bool) → (if b then 1 else 0) + 0 ≤ 1
    by true = omega arith
    by false = omega arith

pub move_leaves : (s s1 s2 : List (Option TableState)) (kept to : ℕ) (targets : List ℕ) → KeepsTypes s s1 → KeepsRoom s s1
    → AdmitsRow s1 s2 targets to
    → IsTrue (list_any (nat_eq kept) targets) → LeavesRoom s s2 kept
move_leaves s s1 s2 kept to targets types room admits named =
    let one = few_arrive to kept in
    let before = room kept in
    let after = admits.room kept named in
    record { types = λ ids is. admits.types kept named ∙ types kept ids is; room = omega (arith, one, before, after) }

pub leaves_from : (s s1 s2 : List (Option TableState)) (kept : ℕ) → SameSlots s s1 → LeavesRoom s1 s2 kept → LeavesRoom s s2 kept
leaves_from s s1 s2 kept same leaves =
    let room = ap (λ o. (unwrap_or o no_table).room) (same kept) in
    let left = leaves.room in
    record { types = λ ids is. leaves.types ids (ap (option_map (λ (t : TableState). t.ids)) (same kept) ∙ is); room = omega (arith, room, left) }
