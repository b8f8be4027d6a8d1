-- Lists of states: who lives or is free at an index, and what a change leaves of it.
use Rattle.eco_entities.proofs.Common.{common_steps, ◌≡◌, ℕ, ◌+◌, ◌-◌, ◌<◌, ◌≤◌, true, cond, List, [], ◌∷◌, length, set}
use Rattle.eco_entities.proofs.Common.{slice_get, refl, sym, ap, ◌∙◌, Option, Some, None, is_some, ◌⊎◌, inl, inr, nat_lt, if◌then◌else◌}
use Rattle.eco_entities.proofs.Common.{arith, eqb-true, option_or, cases_eq, ltb-true, false≢true, ne_eqb, none-some, cond_some, same_Some, Entity, Indexed}
use Rattle.eco_entities.proofs.Common.{IndexState, Retired, Free, Living, record_in, is_alive, is_free_in, is_free_at, map_state, lowest_free, next_entity}
use Rattle.eco_entities.proofs.Common.{changed, record_at}

-- who is there

free_in : {A : Type 0} (o : Option (IndexState A)) (g : ℕ) → is_free_in o g ≡ true → o ≡ Some (Free g)
free_in o g h = grind (arith, common_steps, eqb-true)

-- the state of a free handle's index
pub free_known : {A : Type 0} (w : Indexed A) (e : Entity) → is_free_at w e ≡ true → slice_get w.indices e.index ≡ Some (Free e.generation)
free_known w e h = free_in (slice_get w.indices e.index) e.generation h

living_in : {A : Type 0} (o : Option (IndexState A)) (g : ℕ) → is_some (record_in o g) ≡ true → (r : A) × (o ≡ Some (Living g r))
living_in None g h = absurd (false≢true h)
living_in (Some Retired) g h = absurd (false≢true h)
living_in (Some (Free f)) g h = absurd (false≢true h)
living_in {A} (Some (Living f r)) g h =
    elim (cases_eq g f) [
      | inl e ↦ (r, ap (λ n. Some (Living n r)) (sym e))
      | inr ne ↦ absurd (false≢true (sym (ap (λ b. is_some (cond b (Some r) None)) (ne_eqb g f ne)) ∙ h))
    ]

-- the state of a living entity's index
pub alive_known : {A : Type 0} (w : Indexed A) (e : Entity) → is_alive w e ≡ true
    → (r : A) × (slice_get w.indices e.index ≡ Some (Living e.generation r))
alive_known w e h = living_in (slice_get w.indices e.index) e.generation h

-- a change of what is kept of a living entity, as the index itself shows it
pub changed_states : {A : Type 0} (limit : ℕ) (xs : List (IndexState A)) (e : Entity) (x y : IndexState A) (change : A → A) →
    is_alive (record { limit = limit; indices = xs }) e ≡ true → slice_get xs e.index ≡ Some y → x ≡ map_state change y →
    ◌≡◌ {A = Indexed A} (record { limit = limit; indices = set xs e.index x }) (changed (record { limit = limit; indices = xs }) e change)
changed_states {A} limit xs e x y change alive here is = grind (arith, common_steps, alive_known, same_Some, record_at)

-- who is made next is free at a known index, or comes first after the known ones

lowest_on : {A : Type 0} (n : ℕ) (x : IndexState A) (xs : List (IndexState A)) (e : Entity) →
    (n + 1 ≤ e.index) × (slice_get xs (e.index - (n + 1)) ≡ Some (Free e.generation)) →
    (n ≤ e.index) × (slice_get (x ∷ xs) (e.index - n) ≡ Some (Free e.generation))
lowest_on n x xs e h = grind (arith, common_steps)

lowest_is : {A : Type 0} (n : ℕ) (xs : List (IndexState A)) (e : Entity) → lowest_free n xs ≡ Some e →
    (n ≤ e.index) × (slice_get xs (e.index - n) ≡ Some (Free e.generation))
lowest_is n [] e h = absurd (none-some e h)
lowest_is n (Retired ∷ xs) e h = lowest_on n Retired xs e (lowest_is (n + 1) xs e h)
lowest_is n (Free g ∷ xs) e h = grind (arith, common_steps, same_Some)
lowest_is n (Living g r ∷ xs) e h = lowest_on n (Living g r) xs e (lowest_is (n + 1) xs e h)

next_or : {A : Type 0} (w : Indexed A) (e : Entity) (o : Option Entity) → lowest_free 0 w.indices ≡ o →
    option_or o (if nat_lt (length w.indices) w.limit then Some (record { index = length w.indices; generation = 0 }) else None) ≡ Some e →
    (slice_get w.indices e.index ≡ Some (Free e.generation)) ⊎ ((length w.indices < w.limit) × (record { index = length w.indices; generation = 0 } ≡ e))
next_or w e None low h =
    grind (arith, common_steps, cond_some, ltb-true)
next_or w e (Some x) low h =
    let place : e.index - 0 ≡ e.index = omega arith in
    inl (rw place at (lowest_is 0 w.indices e (low ∙ h)).1)

pub next_is : {A : Type 0} (w : Indexed A) (e : Entity) → next_entity w ≡ Some e →
    (slice_get w.indices e.index ≡ Some (Free e.generation)) ⊎ ((length w.indices < w.limit) × (record { index = length w.indices; generation = 0 } ≡ e))
next_is w e h = next_or w e (lowest_free 0 w.indices) refl h
