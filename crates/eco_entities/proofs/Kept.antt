-- What is kept of each entity after a change of one state.
use Rattle.eco_entities.proofs.Common.{common_steps, ◌≡◌, ◌≢◌, ℕ, zero, suc, ◌<◌, ◌≤◌, true, cond, List, [], ◌∷◌, ◌++◌}
use Rattle.eco_entities.proofs.Common.{length, set, slice_get, slice_set, replicate, refl, sym, ap, ◌∙◌, Some, None, inl, inr, arith, eq-eqb, nat_lt}
use Rattle.eco_entities.proofs.Common.{if◌then◌else◌, cases_eq, ne_eqb, lt-ltb, le-ltb, cond-true, cond-false, slice_get_within, Entity, Indexed}
use Rattle.eco_entities.proofs.Common.{IndexState, Free, Living, record_in, record_of, is_alive, is_free_in, is_free_at, with_record, with_death, with_new}
use Rattle.eco_entities.proofs.Common.{admitted, raised, next_entity, ChangesAt, KeepsAnswers, slice_get-set_same, slice_get-set_other, record_here}
use Rattle.eco_entities.proofs.States.{free_known, alive_known, next_is}

living_else : {A : Type 0} (f g : ℕ) (r : A) → g ≢ f → record_in (Some (Living f r)) g ≡ None
living_else f g r ne = ap (λ b. cond b (Some r) None) (ne_eqb g f ne)

raised_none : (A : Type 0) (f g : ℕ) → record_in {A = A} (Some (raised f)) g ≡ None
raised_none A f g = grind (arith, common_steps)

-- at the index only what is kept of this handle changes
pub record-set : {A : Type 0} (w : Indexed A) (e : Entity) (x y : IndexState A) → slice_get w.indices e.index ≡ Some y →
    ((g : ℕ) → g ≢ e.generation → record_in (Some x) g ≡ record_in (Some y) g) →
    ChangesAt (record_of w) (record_of (record w { indices = slice_set w.indices e.index x })) e (record_in (Some x) e.generation)
record-set w e x y here apart_from = grind (arith, common_steps, slice_get-set_same, slice_get_within, cases_eq, slice_get-set_other)

-- a free handle comes to live
pub record-settled : {A : Type 0} (w : Indexed A) (e : Entity) (r : A) → is_free_at w e ≡ true →
    ChangesAt (record_of w) (record_of (with_record w e r)) e (Some r)
record-settled w e r free =
    let c : ChangesAt (record_of w) (record_of (with_record w e r)) e (record_in (Some (Living e.generation r)) e.generation) =
    record-set w e (Living e.generation r) (Free e.generation) (free_known w e free) (λ g ne. living_else e.generation g r ne) in
    record { here = c.here ∙ record_here e.generation r; others = c.others }

pub record_of_free : {A : Type 0} (w : Indexed A) (e : Entity) → is_free_at w e ≡ true → record_of w e ≡ None
record_of_free w e free = ap (λ o. record_in o e.generation) (free_known w e free)

-- a living one dies
pub record-died : {A : Type 0} (w : Indexed A) (e : Entity) → is_alive w e ≡ true → ChangesAt (record_of w) (record_of (with_death w e)) e None
record-died {A} w e alive =
    let living : (r : A) × (slice_get w.indices e.index ≡ Some (Living e.generation r)) = alive_known w e alive in
    let c : ChangesAt (record_of w) (record_of (with_death w e)) e (record_in (Some (raised e.generation)) e.generation) =
    record-set w e (raised e.generation) (Living e.generation living.0) living.1
    (λ g ne. raised_none A e.generation g ∙ sym (living_else e.generation g living.0 ne)) in
    record { here = c.here ∙ raised_none A e.generation e.generation; others = c.others }

-- something else is kept of a living one
pub record-replaced : {A : Type 0} (w : Indexed A) (e : Entity) (r : A) → is_alive w e ≡ true →
    ChangesAt (record_of w) (record_of (with_record w e r)) e (Some r)
record-replaced {A} w e r alive =
    let living : (q : A) × (slice_get w.indices e.index ≡ Some (Living e.generation q)) = alive_known w e alive in
    let c : ChangesAt (record_of w) (record_of (with_record w e r)) e (record_in (Some (Living e.generation r)) e.generation) =
    record-set w e (Living e.generation r) (Living e.generation living.0) living.1
    (λ g ne. living_else e.generation g r ne ∙ sym (living_else e.generation g living.0 ne)) in
    record { here = c.here ∙ record_here e.generation r; others = c.others }

-- more free indices
record_appended : {A : Type 0} (xs : List (IndexState A)) (n i g : ℕ)
    → record_in (slice_get (xs ++ replicate n (Free 0)) i) g ≡ record_in (slice_get xs i) g
record_appended [] zero i g = refl
record_appended [] (suc n) zero g = refl
record_appended [] (suc n) (suc i) g = record_appended [] n i g
record_appended (x ∷ xs) n zero g = refl
record_appended (x ∷ xs) n (suc i) g = record_appended xs n i g

pub record-admitted : {A : Type 0} (w : Indexed A) (n : ℕ) → KeepsAnswers (record_of w) (record_of (admitted n w))
record-admitted w n = record { all = λ e. record_appended w.indices n e.index e.generation }

-- the next entity, once its index is known

-- the entity's index is known
abbrev pub with_room : {A : Type 0} → Indexed A → Entity → Indexed A
with_room w e = if nat_lt e.index (length w.indices) then w else admitted 1 w

fresh_at : {A : Type 0} (xs : List (IndexState A)) → slice_get (xs ++ Free 0 ∷ []) (length xs) ≡ Some (Free 0)
fresh_at [] = refl
fresh_at (x ∷ xs) = fresh_at xs

set_fresh : {A : Type 0} (xs : List (IndexState A)) (y : IndexState A) → set (xs ++ Free 0 ∷ []) (length xs) y ≡ xs ++ y ∷ []
set_fresh [] y = refl
set_fresh (x ∷ xs) y = ap (λ ys. x ∷ ys) (set_fresh xs y)

room_known : {A : Type 0} (w : Indexed A) (e : Entity) → e.index < length w.indices → with_room w e ≡ w
room_known w e l = cond-true (nat_lt e.index (length w.indices)) w (admitted 1 w) (lt-ltb _ _ l)

room_fresh : {A : Type 0} (w : Indexed A) (e : Entity) → length w.indices ≤ e.index → with_room w e ≡ admitted 1 w
room_fresh w e l = cond-false (nat_lt e.index (length w.indices)) w (admitted 1 w) (le-ltb _ _ l)

free_is : {A : Type 0} (w : Indexed A) (e : Entity) → slice_get w.indices e.index ≡ Some (Free e.generation) → is_free_at w e ≡ true
free_is w e h = ap (λ o. is_free_in o e.generation) h ∙ eq-eqb e.generation e.generation refl

-- what the room for the next entity leaves, and what its settling makes
pub record IsRoom {A : Type 0} (w : Indexed A) (e : Entity) : Type 0 where
  pub free : is_free_at (with_room w e) e ≡ true
  pub keeps : KeepsAnswers (record_of w) (record_of (with_room w e))
  pub settled : (r : A) → with_record (with_room w e) e r ≡ with_new w e r

pub next_has_room : {A : Type 0} (w : Indexed A) (e : Entity) → next_entity w ≡ Some e → IsRoom w e
next_has_room {A} w e h =
    elim (next_is w e h) [
      | inl free ↦
          let within : e.index < length w.indices = slice_get_within w.indices e.index (Free e.generation) free in
          record {
            free = ap (λ (v : Indexed A). is_free_at v e) (room_known w e within) ∙ free_is w e free;
            keeps = record { all = λ j. ap (λ (v : Indexed A). record_of v j) (room_known w e within) };
            settled = λ r. ap (λ (v : Indexed A). with_record v e r) (room_known w e within)
                ∙ sym (cond-true (nat_lt e.index (length w.indices)) (with_record w e r) _ (lt-ltb _ _ within));
          }
      | inr fresh ↦
          let index : length w.indices ≡ e.index = ap (λ (x : Entity). x.index) fresh.1 in
          let generation : 0 ≡ e.generation = ap (λ (x : Entity). x.generation) fresh.1 in
          let past : length w.indices ≤ e.index = omega arith in
          let here : slice_get (admitted 1 w).indices e.index ≡ Some (Free e.generation) =
          ap (λ i. slice_get (w.indices ++ Free 0 ∷ []) i) (sym index) ∙ (fresh_at w.indices ∙ ap (λ g. Some (Free g)) generation) in
          record {
            free = ap (λ (v : Indexed A). is_free_at v e) (room_fresh w e past) ∙ free_is (admitted 1 w) e here;
            keeps = record { all = λ j. ap (λ (v : Indexed A). record_of v j) (room_fresh w e past) ∙ (record-admitted w 1).all j };
            settled = λ r. grind (arith, common_steps, room_fresh, set_fresh, cond-false, le-ltb);
          }
    ]

-- the next entity comes to live, who didn't before
pub record-new : {A : Type 0} (w : Indexed A) (e : Entity) (r : A) → next_entity w ≡ Some e
    → ChangesAt (record_of w) (record_of (with_new w e r)) e (Some r)
record-new {A} w e r h =
    let room : IsRoom w e = next_has_room w e h in
    let c : ChangesAt (record_of (with_room w e)) (record_of (with_record (with_room w e) e r)) e (Some r) = record-settled (with_room w e) e r room.free in
    record {
      here = ap (λ (v : Indexed A). record_of v e) (sym (room.settled r)) ∙ c.here;
      others = λ j ne. ap (λ (v : Indexed A). record_of v j) (sym (room.settled r)) ∙ (c.others j ne ∙ room.keeps.all j);
    }

pub record_of_next : {A : Type 0} (w : Indexed A) (e : Entity) → next_entity w ≡ Some e → record_of w e ≡ None
record_of_next w e h = let room : IsRoom w e = next_has_room w e h in sym (room.keeps.all e) ∙ record_of_free (with_room w e) e room.free
