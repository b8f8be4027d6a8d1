-- What a script's actions ask of its query.
use Rattle.std.specs.Prelude.{ℕ, Bool, true, false, ◌&&◌, List, [], ◌∷◌}
use Rattle.std.specs.Prelude.{Option, Some, None, slice_get, option_and_then, if◌then◌else◌, flat_map}
use Rattle.std.specs.Option.{option_or}
use Rattle.eco_ids.specs.declared.pattern.Pattern.{Pattern}
use Rattle.eco_ids.specs.declared.refusal.Refusal.{Refusal}
use Rattle.eco_ids.specs.declared.refusal.Refusal.TheVariants.{BadTerm, Undeclared}
use Rattle.eco_ids.specs.Terms.{QueryTerm, And, Not, Optional, Or}
use Rattle.eco_query.specs.Queries.{QuerySlot, exactly, patterns_of}
use Rattle.eco_query.specs.declared.access.Access.{Access}
use Rattle.eco_query.specs.declared.access.Access.TheVariants.{In, Out, InOut, InOutNone}
use Rattle.eco_systems.specs.Rows.{shows_values}
use Rattle.eco_bodies.specs.declared.action.Action.{Action}
use Rattle.eco_bodies.specs.declared.action.Action.TheVariants.{AddId, RemoveId, Put, Sum, Kill, Spawn}

-- a slot of this access is written
abbrev pub may_write : Access → Bool
may_write In = false
may_write Out = true
may_write InOut = true
may_write InOutNone = false

-- it is read and written
abbrev pub may_add_to : Access → Bool
may_add_to access = may_write access && shows_values access

abbrev pub asks_presence : QueryTerm → Bool
asks_presence (And p) = true
asks_presence (Not p) = false
asks_presence (Optional i) = true
asks_presence (Or is) = true

-- it is no `!` slot
abbrev pub has_entries : QuerySlot → Bool
has_entries s = asks_presence s.term

-- the slot of this number, where it is there and is no `!` slot
abbrev pub slot_at : List QuerySlot → ℕ → Option QuerySlot
slot_at slots n = option_and_then (λ s. if has_entries s then Some s else None) (slice_get slots n)

-- why a value can't be put there
abbrev pub put_refusal : Option QuerySlot → Option Refusal
put_refusal None = Some BadTerm
put_refusal (Some s) = if may_write s.access then None else Some Undeclared

-- why the second can't be added to the first
abbrev pub sum_refusal : Option QuerySlot → Option QuerySlot → Option Refusal
sum_refusal None from = Some BadTerm
sum_refusal (Some into) None = Some BadTerm
sum_refusal (Some into) (Some from) = if may_add_to into.access && shows_values from.access then None else Some Undeclared

-- why a script on a query of these slots can't have the action
abbrev pub action_refusal : List QuerySlot → Action → Option Refusal
action_refusal slots (AddId i) = None
action_refusal slots (RemoveId i) = None
action_refusal slots (Put slot value) = put_refusal (slot_at slots slot)
action_refusal slots (Sum into from) = sum_refusal (slot_at slots into) (slot_at slots from)
action_refusal slots Kill = None
action_refusal slots (Spawn i) = None

-- that of the first action for which there is one
abbrev pub first_action_refusal : List QuerySlot → List Action → Option Refusal
first_action_refusal slots [] = None
first_action_refusal slots (a ∷ actions) = option_or (action_refusal slots a) (first_action_refusal slots actions)

-- the patterns of a slot
abbrev pub patterns_at : Option QuerySlot → List Pattern
patterns_at None = []
patterns_at (Some s) = patterns_of s.term

-- the patterns that an action writes
abbrev pub action_writes : List QuerySlot → Action → List Pattern
action_writes slots (AddId i) = exactly i ∷ []
action_writes slots (RemoveId i) = exactly i ∷ []
action_writes slots (Put slot value) = patterns_at (slot_at slots slot)
action_writes slots (Sum into from) = patterns_at (slot_at slots into)
action_writes slots Kill = []
action_writes slots (Spawn None) = []
action_writes slots (Spawn (Some i)) = exactly i ∷ []

-- those of all of them, in order
abbrev pub script_writes : List QuerySlot → List Action → List Pattern
script_writes slots actions = flat_map (action_writes slots) actions

-- the action deletes the row's entity
abbrev pub is_kill : Action → Bool
is_kill (AddId i) = false
is_kill (RemoveId i) = false
is_kill (Put slot value) = false
is_kill (Sum into from) = false
is_kill Kill = true
is_kill (Spawn i) = false
