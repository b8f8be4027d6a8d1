use Rattle.eco_script.proofs.FormatsCommon.{Ok, take, commands_view, ReadsCommands}
use Rattle.eco_script.proofs.recording.record_stage.Given as goal

-- the commands so far were read
abbrev pub invariant-loop-place : goal.invariant-loop-place
invariant-loop-place l = ReadsCommands l.world (take l.place (commands_view l.commands)) (Ok l.stage)
