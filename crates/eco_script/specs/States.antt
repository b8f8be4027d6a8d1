-- What a script has reached: a world, and the systems that it has declared.
use Rattle.std.specs.Prelude.{ℕ, Bool, not, List, [], ◌∷◌, Option}
use Rattle.std.specs.List.{list_any}
use Rattle.eco_ids.specs.declared.edition.Edition.{Edition}
use Rattle.eco_ids.specs.declared.refusal.Refusal.{Refusal}
use Rattle.eco_ids.specs.declared.refusal.Refusal.TheVariants.{BadName, SystemNameTaken}
use Rattle.eco_ids.specs.Names.{is_name, is_text}
use Rattle.eco_ids.specs.Outcome.{first_refusal}
use Rattle.eco_ids.specs.World.{WorldState, world_of_edition}
use Rattle.eco_query.specs.Queries.{QuerySlot}
use Rattle.eco_systems.specs.declared.phase.Phase.{Phase}
use Rattle.eco_systems.specs.Systems.{SystemModel}
use Rattle.eco_bodies.specs.Actions.{is_kill, script_writes}
use Rattle.eco_bodies.specs.Bodies.{system_with}
use Rattle.eco_bodies.specs.Scripts.{script_commands, script_taken}
use Rattle.eco_bodies.specs.declared.action.Action.{Action}

-- a system that was declared, with its name
pub record NamedSystem : Type 0 where
  pub name : List ℕ
  pub system : SystemModel

-- a world, and the systems that were declared so far
pub record ScriptState : Type 0 where
  pub world : WorldState
  pub systems : List NamedSystem

-- a new world of an edition and a limit, and no system
abbrev pub first_state : Edition → ℕ → ScriptState
first_state edition limit = record { world = world_of_edition edition limit; systems = [] }

-- one of the systems has the name
abbrev pub is_declared : List NamedSystem → List ℕ → Bool
is_declared systems name = list_any (λ s. is_text s.name name) systems

-- why a system of the name can't be declared
abbrev pub name_refusal : List NamedSystem → List ℕ → Option Refusal
name_refusal systems name = first_refusal ((not (is_name name), BadName) ∷ (is_declared systems name, SystemNameTaken) ∷ [])

-- the system that does these actions with each row of its query, in their order
abbrev pub script_system : List ℕ → Phase → List QuerySlot → List Action → NamedSystem
script_system name phase slots actions = record {
  name = name;
  system = system_with phase slots [] (script_writes slots actions) (list_any is_kill actions) (script_taken actions)
      (script_commands (script_writes slots actions) actions);
}
