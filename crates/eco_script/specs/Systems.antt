-- The systems that the program keeps, as those of the definitions.
use Rattle.std.specs.Prelude.{◌≡◌, ℕ, List, [], map, string_bytes, Result, Err, IsOkAnd, MatchOption, MatchResult}
use Rattle.std.specs.List.{list_any}
use Rattle.eco_ids.specs.declared.entity.Entity.{Entity}
use Rattle.eco_ids.specs.declared.refusal.Refusal.{Refusal}
use Rattle.eco_ids.specs.Run.{Command}
use Rattle.eco_ids.specs.World.{WorldState}
use Rattle.eco_systems.specs.Rows.{ValuedRow}
use Rattle.eco_systems.specs.Systems.{SystemModel}
use Rattle.eco_query.specs.Queries.{QuerySlot}
use Rattle.eco_bodies.specs.Actions.{first_action_refusal, is_kill, script_writes}
use Rattle.eco_bodies.specs.declared.action.Action.{Action}
use Rattle.eco_steps.specs.Actions as texts
use Rattle.eco_script.specs.Recording.{ReadsActions}
use Rattle.eco_bodies.specs.Scripts.{script_commands, script_taken}
use Rattle.eco_bodies.specs.declared.script.Script.{Script}
use Rattle.eco_bodies.specs.declared.systems.System.{System}
use Rattle.eco_frame.specs.Models.{model_of}
use Rattle.eco_script.specs.States.{NamedSystem, ScriptState}

-- how many handles a script takes
abbrev pub handles_taken : Script → ValuedRow → List Entity → ℕ
handles_taken s = script_taken s.actions.items

-- what it records
abbrev pub recorded_by : Script → ValuedRow → List Entity → List Command
recorded_by s = script_commands s.writes.items s.actions.items

-- a system whose body is a script, as definitions have it
abbrev pub model_by : System Script → SystemModel
model_by = model_of (λ (s : Script). []) (λ (s : Script). s.writes.items) (λ (s : Script). s.kills) handles_taken recorded_by

-- with its name
abbrev pub named : System Script → NamedSystem
named s = record { name = string_bytes s.name; system = model_by s }

-- a world with such systems
abbrev pub reached : WorldState → List (System Script) → ScriptState
reached w systems = record { world = w; systems = map named systems }

-- a script of these actions, for the rows of a query
pub record IsScriptOf (slots : List QuerySlot) (actions : List Action) (s : Script) : Type 0 where
  pub actions_are : s.actions.items ≡ actions
  pub writes_are : s.writes.items ≡ script_writes slots actions
  pub kills_are : s.kills ≡ list_any is_kill actions

-- the texts name its actions, which fit the query; or the first refusal is the answer
abbrev pub ReadsBody : WorldState → List QuerySlot → List texts.WrittenAction → Result Script Refusal → Type 0
ReadsBody w slots actions r =
    (read : Result (List Action) Refusal) × ReadsActions w actions read
    × MatchResult read (λ acts. MatchOption (first_action_refusal slots acts) (IsOkAnd r (IsScriptOf slots acts)) (λ why. r ≡ Err why)) (λ why. r ≡ Err why)
