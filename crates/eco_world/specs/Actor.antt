-- Who may be changed by a call.
use Rattle.std.specs.Prelude.{◌≡◌, Bool, true, false, not, List, ◌∷◌, Some, Err, is_some}
use Rattle.eco_ids.specs.declared.entity.Entity.{Entity}
use Rattle.eco_ids.specs.declared.id.Id.{Id}
use Rattle.eco_ids.specs.declared.value.Value.{Value}
use Rattle.eco_ids.specs.declared.refusal.Refusal.{Refusal}
use Rattle.eco_ids.specs.declared.refusal.Refusal.TheVariants.{NotAlive, Reserved}
use Rattle.eco_ids.specs.Outcome.{first_refusal, is_out_of_memory}
use Rattle.eco_ids.specs.Data.{arity, fits}
use Rattle.eco_ids.specs.Step.{is_reserved, unfit_set}
use Rattle.eco_ids.specs.World.{WorldState, names_living, is_alive}

-- this is refused first, whatever is tested after: the entity doesn't live, or a built-in would be changed
pub record IsUnfit (w : WorldState) (e : Entity) (reserved : Bool) (why : Refusal) : Type 0 where
  pub first : (later : List (Bool × Refusal)) → first_refusal ((not (is_alive w e), NotAlive) ∷ (reserved, Reserved) ∷ later) ≡ Some why
  pub other : is_out_of_memory {A = Unit {0}} (Err why) ≡ false

-- nothing stands against a set before the closure is looked at
pub record MaySet (w : WorldState) (e : Entity) (i : Id) (v : Value) : Type 0 where
  pub alive : is_alive w e ≡ true
  pub free : is_reserved w e i ≡ false
  pub living : names_living w i ≡ true
  pub data_id : is_some (arity w i) ≡ true
  pub narrow : fits w i v ≡ true

-- this stands against it
pub record MayNotSet (w : WorldState) (e : Entity) (i : Id) (v : Value) (why : Refusal) : Type 0 where
  pub first : unfit_set w e i v ≡ Some why
  pub other : is_out_of_memory {A = Unit {0}} (Err why) ≡ false
