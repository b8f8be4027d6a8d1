use Rattle.eco_merges.proofs.Common.{◌≡◌, ◌+◌, ◌++◌, ap, get_or, take}
use Rattle.std.proofs.lemmas.List.Folds.{length-flat_map-take}
use Rattle.eco_merges.proofs.Common.{arith, commands_at, commands_of, take_more, ◌∙◌}
use Rattle.eco_stages.proofs.Keeping.{last_of}
use Rattle.eco_merges.proofs.Merges.{both_done, grown, none_done}
use Rattle.eco_stages.specs.declared.recorded.Recorded.TheVariants.{Create}
use Rattle.eco_merges.proofs.merging.apply_each.Goals as goal

pub loop-command-init : goal.loop-command-init
loop-command-init g c = record { are_done = none_done (g.W.MergeTarget.world c.args.world.now) c.args.outcomes.now }

pub apply-requires-clause-room : goal.apply-requires-clause-room
apply-requires-clause-room g c =
    let i = c.loop-command.command-index in
    let cs = c.args.commands.now in
    let kept = c.args.kept.now in
    let d = Create (record { index = 0; generation = 0 }) in
    let r = get_or cs i d in
    let was = c.loop-command.invariant.are_done in
    omega (
      arith,
      length-flat_map-take (commands_at kept) cs i d c.loop-command-test.true,
      grown (g.W.MergeTarget.world c.args.world.now) (g.W.MergeTarget.world c.loop-command.world) (commands_of kept (take i cs)) c.args.outcomes.now
          c.loop-command.outcomes was,
      was.room,
      c.requires.room,
    )

pub loop-command-preserved : goal.loop-command-preserved
loop-command-preserved g c =
    let i = c.loop-command.command-index in
    let cs = c.args.commands.now in
    let kept = c.args.kept.now in
    let d = Create (record { index = 0; generation = 0 }) in
    let r = get_or cs i d in
    let more : commands_of kept (take (i + 1) cs) ≡ commands_of kept (take i cs) ++ commands_at kept r =
    ap (commands_of kept) (take_more cs i d c.loop-command-test.true) ∙ last_of kept (take i cs) r in
    record {
      are_done =
          rw more
          (both_done c.runs_keep_lawful.ensures.compose (g.W.MergeTarget.world c.args.world.now) (g.W.MergeTarget.world c.loop-command.world)
          (g.W.MergeTarget.world c.apply.new.world) (commands_of kept (take i cs)) (commands_at kept r) c.args.outcomes.now c.loop-command.outcomes
          c.apply.new.outcomes c.loop-command.invariant.are_done c.apply.ensures);
    }
