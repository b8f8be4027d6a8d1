-- What a script records.
use Rattle.std.specs.Prelude.{ℕ, Bool, true, false, List, [], ◌∷◌, Option, Some, None, option_and_then, option_to_list, if◌then◌else◌}
use Rattle.eco_ids.specs.declared.entity.Entity.{Entity}
use Rattle.eco_ids.specs.declared.id.Id.{Id}
use Rattle.eco_ids.specs.declared.pattern.Pattern.{Pattern}
use Rattle.eco_ids.specs.declared.value.Value.{Value}
use Rattle.eco_ids.specs.Run.{Command, Create, Add, Remove, Set, Delete}
use Rattle.eco_systems.specs.Rows.{ValuedRow}
use Rattle.eco_systems.specs.Systems.{matches_one}
use Rattle.eco_bodies.specs.Lent.{item_at}
use Rattle.eco_bodies.specs.Sums.{sum_of_both}
use Rattle.eco_bodies.specs.Taking.{commands_in_turn, taken_of}
use Rattle.eco_bodies.specs.declared.action.Action.{Action}
use Rattle.eco_bodies.specs.declared.action.Action.TheVariants.{AddId, RemoveId, Put, Sum, Kill, Spawn}

-- the value of a slot's entry, where it has both
abbrev pub value_at : ValuedRow → ℕ → Option Value
value_at row slot = option_and_then (λ i. item_at row.values slot) (item_at row.entries slot)

-- the sum of the values of two slots, where both have one
abbrev pub sum_at : ValuedRow → ℕ → ℕ → Option Value
sum_at row into from = sum_of_both (value_at row into) (value_at row from)

-- an entry is set to a value, where both are there. An entry that matches no pattern written, as it may stand in a row of another
-- query than the script's, is none of its slots'
abbrev pub set_of : List Pattern → Entity → Option Id → Option Value → Option Command
set_of writes e None v = None
set_of writes e (Some i) None = None
set_of writes e (Some i) (Some v) = if matches_one writes i then Some (Set e i v) else None

-- the entry of a slot and that of another, whose values are summed, are there, and the first matches a pattern
abbrev pub are_summed : List Pattern → Option Id → Option Id → Bool
are_summed writes (Some i) (Some j) = matches_one writes i
are_summed writes _ _ = false

-- rows of these entries have what an action asks of them
abbrev pub fits_action : List Pattern → List (Option Id) → Action → Bool
fits_action writes entries (Sum into from) = are_summed writes (item_at entries into) (item_at entries from)
fits_action writes entries _ = true

-- the change of the row's entity that an action records
abbrev pub change_by_action : List Pattern → ValuedRow → Action → Option Command
change_by_action writes row (AddId i) = Some (Add row.entity i)
change_by_action writes row (RemoveId i) = Some (Remove row.entity i)
change_by_action writes row (Put slot value) = set_of writes row.entity (item_at row.entries slot) (Some value)
change_by_action writes row (Sum into from) = set_of writes row.entity (item_at row.entries into) (sum_at row into from)
change_by_action writes row Kill = Some (Delete row.entity)
change_by_action writes row (Spawn i) = None

-- a handle that is drawn is made living, and gets the id
abbrev pub spawned : Option Id → List Entity → List Command
spawned i [] = []
spawned None (e ∷ draws) = Create e ∷ []
spawned (Some i) (e ∷ draws) = Create e ∷ Add e i ∷ []

-- how many handles an action takes
abbrev pub draws_of : Action → ℕ
draws_of (AddId i) = 0
draws_of (RemoveId i) = 0
draws_of (Put slot value) = 0
draws_of (Sum into from) = 0
draws_of Kill = 0
draws_of (Spawn i) = 1

abbrev pub takes_draws : Action → List Entity → ℕ
takes_draws a draws = draws_of a

-- what an action records, with these handles to draw
abbrev pub action_commands : List Pattern → ValuedRow → Action → List Entity → List Command
action_commands writes row (AddId i) draws = Add row.entity i ∷ []
action_commands writes row (RemoveId i) draws = Remove row.entity i ∷ []
action_commands writes row (Put slot value) draws = option_to_list (change_by_action writes row (Put slot value))
action_commands writes row (Sum into from) draws = option_to_list (change_by_action writes row (Sum into from))
action_commands writes row Kill draws = Delete row.entity ∷ []
action_commands writes row (Spawn i) draws = spawned i draws

-- what the actions record for a row, in their order
abbrev pub script_commands : List Pattern → List Action → ValuedRow → List Entity → List Command
script_commands writes actions row draws = commands_in_turn (action_commands writes row) takes_draws actions draws

-- how many handles they take
abbrev pub script_taken : List Action → ValuedRow → List Entity → ℕ
script_taken actions row draws = taken_of takes_draws actions draws

-- the action keeps to what is declared
abbrev pub is_allowed : List Pattern → Bool → Action → Bool
is_allowed writes kills (AddId i) = matches_one writes i
is_allowed writes kills (RemoveId i) = matches_one writes i
is_allowed writes kills (Put slot value) = true
is_allowed writes kills (Sum into from) = true
is_allowed writes kills Kill = kills
is_allowed writes kills (Spawn None) = true
is_allowed writes kills (Spawn (Some i)) = matches_one writes i
