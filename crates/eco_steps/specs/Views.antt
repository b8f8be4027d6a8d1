-- The steps that the program keeps, as those of a script.
use Rattle.std.specs.Prelude.{List, [], map, option_map}
use Rattle.std.specs.Option.{unwrap_or}
use Rattle.serde_json.specs.View.{view}
use Rattle.eco_steps.specs.Commands as commands
use Rattle.eco_steps.specs.Actions as acts
use Rattle.eco_steps.specs.Decode.{each_in, action_in, command_in, stage_in}
use Rattle.eco_steps.specs.Steps as script
use Rattle.eco_steps.specs.Script as whole
use Rattle.eco_steps.specs.declared.step.WrittenStep.{WrittenStep}
use Rattle.eco_steps.specs.declared.step.WrittenStep.TheVariants as variant
use Rattle.eco_steps.specs.declared.action.WrittenAction.{WrittenAction}
use Rattle.eco_steps.specs.declared.action.WrittenAction.TheVariants as action
use Rattle.eco_steps.specs.declared.actions.Actions.{Actions}
use Rattle.eco_steps.specs.declared.change.WrittenChange.{WrittenChange}
use Rattle.eco_steps.specs.declared.change.WrittenChange.TheVariants.{Add, Remove, Set, Clear, Rename, Delete, DeleteWith, RemoveAll}
use Rattle.eco_steps.specs.declared.command.WrittenCommand.{WrittenCommand}
use Rattle.eco_steps.specs.declared.command.WrittenCommand.TheVariants as command
use Rattle.eco_steps.specs.declared.commands.Commands.{Commands}
use Rattle.eco_steps.specs.declared.stages.Stages.{Stages}
use Rattle.eco_steps.specs.declared.script.WrittenScript.{WrittenScript}

-- the change, with the texts that it borrows
abbrev pub change_view : WrittenChange → commands.WrittenChange
change_view (Add entity id) = commands.add entity.now id.now
change_view (Remove entity id) = commands.remove entity.now id.now
change_view (Set entity id value) = commands.set entity.now id.now value
change_view (Clear entity) = commands.clear entity.now
change_view (Rename entity name) = commands.rename entity.now (option_map (λ s. s.now) name)
change_view (Delete entity) = commands.delete entity.now
change_view (DeleteWith id) = commands.delete_with id.now
change_view (RemoveAll id) = commands.remove_all id.now

-- the command, likewise
abbrev pub command_view : WrittenCommand → commands.WrittenCommand
command_view (command.Create handle) = commands.create handle.now
command_view (command.Change change) = commands.change (change_view change)

-- the commands of the values that are kept, which are commands all
abbrev pub commands_view : Commands → List commands.WrittenCommand
commands_view s = unwrap_or (each_in (command_in s.edition) (map view s.values.now)) []

-- the stages of the values that are kept, likewise
abbrev pub stages_view : Stages → List (List commands.WrittenCommand)
stages_view s = unwrap_or (each_in (stage_in s.edition) (map view s.values.now)) []

-- the action, with the texts that it borrows
abbrev pub action_view : WrittenAction → acts.WrittenAction
action_view (action.Add id) = acts.add id.now
action_view (action.Remove id) = acts.remove id.now
action_view (action.Put slot value) = acts.put slot value
action_view (action.Sum into from) = acts.sum into from
action_view action.Kill = acts.kill
action_view (action.Spawn id) = acts.spawn (option_map (λ s. s.now) id)

-- the actions of the values that are kept, which are actions all
abbrev pub actions_view : Actions → List acts.WrittenAction
actions_view s = unwrap_or (each_in (action_in s.edition) (map view s.values.now)) []

-- the step, with the texts that it borrows
abbrev pub step_view : WrittenStep → script.WrittenStep
step_view (variant.Create name) = script.create (option_map (λ s. s.now) name)
step_view (variant.Component name arity) = script.component name.now arity
step_view (variant.Change change) = script.change (change_view change)
step_view (variant.Has entity id) = script.has entity.now id.now
step_view (variant.Get entity id) = script.get entity.now id.now
step_view (variant.Show entity) = script.show entity.now
step_view variant.List = script.list
step_view (variant.Query text) = script.query text.now
step_view (variant.Cache text) = script.cache text.now
step_view (variant.Cached query) = script.cached query
step_view (variant.Merge admitted stages) = script.merge admitted (stages_view stages)
step_view (variant.System name phase query actions) = script.system name.now phase query.now (actions_view actions)
step_view variant.Frame = script.frame

-- the script, step by step
abbrev pub script_view : WrittenScript → whole.WrittenScript
script_view s = record { edition = s.edition; limit = s.limit; steps = map step_view s.steps.items }
