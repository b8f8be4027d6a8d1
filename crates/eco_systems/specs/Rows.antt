-- Rows with values: what a system's body is handed.
use Rattle.std.specs.Prelude.{Bool, true, false, List, [], ◌∷◌, map, Option, Some, None, if◌then◌else◌}
use Rattle.eco_ids.specs.declared.entity.Entity.{Entity}
use Rattle.eco_ids.specs.declared.id.Id.{Id}
use Rattle.eco_ids.specs.declared.value.Value.{Value}
use Rattle.eco_ids.specs.Answer.{Row, answer}
use Rattle.eco_ids.specs.Data.{value_of}
use Rattle.eco_ids.specs.World.{WorldState}
use Rattle.eco_query.specs.Queries.{QuerySlot}
use Rattle.eco_query.specs.declared.access.Access.{Access}
use Rattle.eco_query.specs.declared.access.Access.TheVariants.{In, Out, InOut, InOutNone}

-- a result with its values: one for each slot, where the slot has an entry that is data and may be read
pub record ValuedRow : Type 0 where
  pub entity : Entity
  pub entries : List (Option Id)
  pub values : List (Option Value)

-- a slot of this access shows its values
abbrev pub shows_values : Access → Bool
shows_values In = true
shows_values Out = false
shows_values InOut = true
shows_values InOutNone = false

-- the value of an entry, where it may be read
abbrev pub entry_value : (Id → Option Value) → Access → Option Id → Option Value
entry_value value access None = None
entry_value value access (Some i) = if shows_values access then value i else None

-- the values of a result's entries, slot by slot
abbrev pub entry_values : (Id → Option Value) → List QuerySlot → List (Option Id) → List (Option Value)
entry_values value [] entries = []
entry_values value (slot ∷ slots) [] = []
entry_values value (slot ∷ slots) (entry ∷ entries) = entry_value value slot.access entry ∷ entry_values value slots entries

-- a result with the values that the world has for it
abbrev pub valued : WorldState → List QuerySlot → Row → ValuedRow
valued w slots row = record { entity = row.entity; entries = row.entries; values = entry_values (value_of w row.entity) slots row.entries }

-- what the query answers, each result with its values
abbrev pub valued_rows : WorldState → List QuerySlot → List ValuedRow
valued_rows w slots = map (valued w slots) (answer w (map (λ s. s.term) slots))
