-- At which ids values may stand.
use Rattle.std.specs.Prelude.{◌≡◌, ◌+◌, ◌<◌, ◌%◌, ℕ, Bool, true, false, not, if◌then◌else◌, List, ◌∷◌, None, Option, Some, Err, get_or, is_some, length}
use Rattle.std.specs.Prelude.{slice_get}
use Rattle.eco_ids.specs.declared.entity.Entity.{Entity}
use Rattle.eco_ids.specs.declared.entity.TheConstants.{CHILD_OF}
use Rattle.eco_ids.specs.declared.id.Id.{Id}
use Rattle.eco_ids.specs.declared.id.Id.TheVariants.{One}
use Rattle.eco_ids.specs.declared.refusal.Refusal.{Refusal}
use Rattle.eco_ids.specs.declared.refusal.Refusal.TheVariants.{DeadId, NotData}
use Rattle.eco_ids.specs.Outcome.{first_refusal, is_out_of_memory}
use Rattle.eco_ids.specs.declared.value.Value.{Value}
use Rattle.eco_ids.specs.Data.{arity}
use Rattle.eco_ids.specs.World.{WorldState, has, names_living, padded}
use Rattle.eco_stages.specs.Recorded.{RunSet}
use Rattle.eco_world.specs.Actor.{MaySet}

-- the id names the living alone, and its values have so many fields
pub record IsSettable (w : WorldState) (i : Id) (fields : ℕ) : Type 0 where
  pub living : names_living w i ≡ true
  pub has_fields : arity w i ≡ Some fields

-- how many fields the values of the id have; none, where no value may stand at it
abbrev pub fields_at : WorldState → Id → Option ℕ
fields_at w i = if names_living w i then arity w i else None

-- so it is told of each of the ids
abbrev pub AreSettable : WorldState → List Id → List (Option ℕ) → Type 0
AreSettable w ids known = (k : ℕ) → k < length ids → get_or known k None ≡ fields_at w (get_or ids k (One CHILD_OF))

-- the entity has the id, and nothing stands against the value
pub record IsThere (w : WorldState) (e : Entity) (i : Id) (v : Value) : Type 0 where
  pub may : MaySet w e i v
  pub had : has w e i ≡ true

-- of sets of these ids in turn, whose first stands at a place, the set of this number does not write a value that is there
abbrev pub StopsAt : WorldState → List Id → ℕ → List RunSet → ℕ → Type 0
StopsAt w ids first sets n =
    (s : RunSet) (i : Id) → slice_get sets n ≡ Some s → slice_get ids ((first + n) % length ids) ≡ Some i
    → IsThere w s.0 i (padded s.1) → ⊥

-- this is refused first, whatever is tested after: the id names one that doesn't live, or it is no data
pub record IsUnsettable (w : WorldState) (i : Id) (why : Refusal) : Type 0 where
  pub first : (later : List (Bool × Refusal)) →
      first_refusal ((not (names_living w i), DeadId) ∷ (not (is_some (arity w i)), NotData) ∷ later) ≡ Some why
  pub other : is_out_of_memory {A = Unit {0}} (Err why) ≡ false
