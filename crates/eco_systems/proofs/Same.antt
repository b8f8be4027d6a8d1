-- Worlds that look the same through a test of ids.
use Rattle.eco_systems.proofs.Common.{◌≡◌, Bool, cond, refl, ◌∙◌, IsTrue, None, is_some, find, Entity, Id, arity_of, arity, value_of, id_cmp}
use Rattle.eco_systems.proofs.Common.{WorldState, held_by, same_arity}
use Rattle.eco_ids.specs.declared.id.Id.TheVariants.{One, Two}

-- each entity has the same arity, and the same value for each id that the test sees
pub record LooksSame (seen : Id → Bool) (w new : WorldState) : Type 0 where
  pub edition : new.edition ≡ w.edition
  pub arity : (x : Entity) → arity_of new x ≡ arity_of w x
  pub held : (x : Entity) (j : Id) → IsTrue (seen j) → find id_cmp j (held_by new x) ≡ find id_cmp j (held_by w x)

pub looks_then : {seen : Id → Bool} {w mid new : WorldState} → LooksSame seen w mid → LooksSame seen mid new → LooksSame seen w new
looks_then p q = record { edition = q.edition ∙ p.edition; arity = λ x. q.arity x ∙ p.arity x; held = λ x j h. q.held x j h ∙ p.held x j h }

-- every id has the same arity
pub arity_alike : {seen : Id → Bool} {w new : WorldState} → LooksSame seen w new → (i : Id) → arity new i ≡ arity w i
arity_alike {w = w} {new = new} p (One e) = p.arity e
arity_alike {w = w} {new = new} p (Two r t) = same_arity w new p.edition (Two r t) (p.arity r, p.arity t)

-- an id that is seen has the same value
pub value_alike : {seen : Id → Bool} {w new : WorldState} → LooksSame seen w new → (e : Entity) (i : Id) → IsTrue (seen i)
    → value_of new e i ≡ value_of w e i
value_alike {w = w} {new = new} p e i h = λ k. cond (is_some (arity_alike p i k)) (p.held e i h k) None
