-- Who lives at an index, in lists of states.
use Rattle.eco_ids.proofs.Common.{◌≡◌, ℕ, cond, slice_get, Some, None, Option, refl, ap, ◌∙◌, arith, eq-eqb, eqb-true, common_steps, same_Some, none-some}
use Rattle.eco_ids.proofs.Common.{Entity, Living, IndexState, Indexed, Free, Retired, record_in}
use Rattle.eco_ids.specs.Indices.{record_of}

-- a handle is its index and generation
pub same_parts : (a b : Entity) → a.index ≡ b.index → a.generation ≡ b.generation → a ≡ b
same_parts a b p q = λ i. record { index = p i; generation = q i }

-- what is known of an entity that lives
pub state_of_living : {A : Type 0} (o : Option (IndexState A)) (g : ℕ) (r : A) → record_in o g ≡ Some r → o ≡ Some (Living g r)
state_of_living None g r h = absurd (none-some r h)
state_of_living (Some Retired) g r h = absurd (none-some r h)
state_of_living (Some (Free f)) g r h = absurd (none-some r h)
state_of_living (Some (Living f d)) g r h =
    grind (arith, common_steps, eqb-true, same_Some, none-some)

pub living_at : {A : Type 0} (w : Indexed A) (e : Entity) (r : A) → record_of w e ≡ Some r → slice_get w.indices e.index ≡ Some (Living e.generation r)
living_at w e r h = state_of_living (slice_get w.indices e.index) e.generation r h

pub record_here : {A : Type 0} (g : ℕ) (r : A) → record_in (Some (Living g r)) g ≡ Some r
record_here g r = ap (λ b. cond b (Some r) None) (eq-eqb g g refl)

pub record_at : {A : Type 0} (w : Indexed A) (e : Entity) (r : A) → slice_get w.indices e.index ≡ Some (Living e.generation r) → record_of w e ≡ Some r
record_at w e r h = ap (λ o. record_in o e.generation) h ∙ record_here e.generation r
