-- The laws of scripts, as the contracts of `src/lawful.rt` cite them.
use Rattle.std.specs.Prelude.{◌≡◌, ◌==◌, ◌++◌, ℕ, Bool, false, IsTrue, Contains, List, Some}
use Rattle.std.specs.List.{list_any}
use Rattle.eco_ids.specs.declared.entity.Entity.{Entity}
use Rattle.eco_ids.specs.declared.id.Id.{Id}
use Rattle.eco_ids.specs.World.{WorldState}
use Rattle.eco_query.specs.Queries.{QuerySlot}
use Rattle.eco_systems.specs.Rows.{ValuedRow, valued_rows}
use Rattle.eco_systems.specs.Systems.{matches_one}
use Rattle.eco_bodies.specs.Actions.{script_writes}
use Rattle.eco_bodies.specs.Lent.{item_at}
use Rattle.eco_bodies.specs.Scripts.{script_taken}
use Rattle.eco_bodies.specs.Taking.{takes_just}
use Rattle.eco_bodies.specs.declared.action.Action.{Action}
use Rattle.eco_bodies.specs.declared.action.Action.TheVariants.{AddId, RemoveId, Put, Sum, Kill, Spawn}

-- the action sets the entry of this slot
abbrev pub sets_slot : ℕ → Action → Bool
sets_slot n (AddId i) = false
sets_slot n (RemoveId i) = false
sets_slot n (Put slot value) = slot == n
sets_slot n (Sum into from) = into == n
sets_slot n Kill = false
sets_slot n (Spawn i) = false

-- in the rows of its own query, each entry that a script sets matches what it writes: none of them is passed over
abbrev pub OwnEntriesAreSet : Type 0
OwnEntriesAreSet =
    (w : WorldState) (slots : List QuerySlot) (actions : List Action) (row : ValuedRow) (n : ℕ) (i : Id)
    → Contains (valued_rows w slots) row → IsTrue (list_any (sets_slot n) actions) → item_at row.entries n ≡ Some i
    → IsTrue (matches_one (script_writes slots actions) i)

-- of one list of draws a script takes one beginning at most
abbrev pub ScriptsTakeOne : Type 0
ScriptsTakeOne =
    (actions : List Action) (row : ValuedRow) (mine others rest later : List Entity)
    → IsTrue (takes_just (script_taken actions) row mine) → IsTrue (takes_just (script_taken actions) row others)
    → mine ++ rest ≡ others ++ later → mine ≡ others
