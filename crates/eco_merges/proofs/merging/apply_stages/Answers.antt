use Rattle.eco_merges.proofs.Common.{◌≡◌, ◌++◌, length, get_or, take, sym, ap, ◌∙◌, arith, commands_of, all_commands}
use Rattle.std.proofs.lemmas.List.Folds.{length-flat_map-take}
use Rattle.eco_merges.proofs.Merges.{none_done, both_done, grown, stage_more}
use Rattle.eco_merges.proofs.merging.apply_stages.Goals as goal

pub loop-stage-init : goal.loop-stage-init
loop-stage-init g c = record { are_done = none_done (g.W.MergeTarget.world c.args.world.now) c.args.outcomes.now }

pub apply_each-requires : goal.apply_each-requires
apply_each-requires g c =
    let i = c.loop-stage.stage-index in
    let s = c.stage-item.result in
    let was = c.loop-stage.invariant.are_done in
    let own : length (commands_of c.recorded.result.1.now c.recorded.result.0.now) ≡ length s = ap length c.recorded.ensures.all in
    let there : length s ≡ length (get_or c.args.stages.now i s) = ap length c.stage-item.is in
    let fits = length-flat_map-take (λ t. t) c.args.stages.now i s c.loop-stage-test.true in
    let more = grown (g.W.MergeTarget.world c.args.world.now) (g.W.MergeTarget.world c.loop-stage.world) (all_commands (take i c.args.stages.now))
    c.args.outcomes.now c.loop-stage.outcomes was in
    omega (arith, own, there, fits, more, was.room, c.requires)

pub loop-stage-preserved : goal.loop-stage-preserved
loop-stage-preserved g c =
    let i = c.loop-stage.stage-index in
    let ss = c.args.stages.now in
    let s = c.stage-item.result in
    let more = stage_more ss i s c.loop-stage-test.true ∙ ap (λ t. all_commands (take i ss) ++ t) (sym c.stage-item.is ∙ sym c.recorded.ensures.all) in
    record {
      are_done =
          rw more
          (both_done c.runs_keep_lawful.ensures.compose (g.W.MergeTarget.world c.args.world.now) (g.W.MergeTarget.world c.loop-stage.world)
          (g.W.MergeTarget.world c.apply_each.new.world) (all_commands (take i ss)) (commands_of c.recorded.result.1.now c.recorded.result.0.now)
          c.args.outcomes.now
          c.loop-stage.outcomes c.apply_each.new.outcomes c.loop-stage.invariant.are_done c.apply_each.ensures);
    }
