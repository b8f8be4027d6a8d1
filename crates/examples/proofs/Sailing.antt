-- What the body records where it has both values as Rust types.
use Rattle.std.proofs.Common.{◌≡◌, [], ◌∷◌, Option, Some, None, option_map, Result, Ok, Err, IfOk, OnOk}
use Rattle.std.proofs.lemmas.Option.{none-some, same_Some}
use Rattle.eco_ids.specs.declared.entity.Entity.{Entity}
use Rattle.eco_ids.specs.declared.id.Id.{Id}
use Rattle.eco_ids.specs.declared.value.Value.{Value}
use Rattle.eco_ids.specs.Run.{Set}
use Rattle.eco_frame.specs.Fields.{two}
use Rattle.examples.specs.declared.typed.position.Position.{Position}
use Rattle.examples.specs.declared.typed.velocity.Velocity.{Velocity}
use Rattle.examples.specs.Ships.{position_of, recorded, sailed, velocity_of}

pub recorded_here : (i : Id) (e : Entity) (o p : Option Value) (at : Position) (by : Velocity) → option_map position_of o ≡ Some at
    → option_map velocity_of p ≡ Some by → recorded i e o p ≡ Set e i (two (sailed at by).east (sailed at by).north) ∷ []
recorded_here i e (Some a) (Some b) at by ha hb =
    let is_at : position_of a ≡ at = same_Some (position_of a) at ha in
    let is_by : velocity_of b ≡ by = same_Some (velocity_of b) by hb in
    λ t. Set e i (two (sailed (is_at t) (is_by t)).east (sailed (is_at t) (is_by t)).north) ∷ []
recorded_here i e (Some a) None at by ha hb = absurd (none-some by hb)
recorded_here i e None p at by ha hb = absurd (none-some at ha)

-- what holds where a call succeeds, from what that says
pub if_ok : {A E Q : Type 0} {P : A → Type 0} (r : Result A E) → OnOk r Q → (Q → (a : A) → P a) → IfOk r P
if_ok (Ok a) q f = f q a
if_ok (Err e) q f = tt
