use Rattle.std.proofs.Common.{rules}
use Rattle.std.proofs.lemmas.List.Elements.{All-get_or}
use Rattle.eco_steps.specs.Steps.{KeepsTo}
use Rattle.eco_steps.specs.Views.{step_view}
use Rattle.flecsview.proofs.view.view_steps.Goals as goal

pub view_step-requires : goal.view_step-requires
view_step-requires g c =
    let here = All-get_or (λ step. KeepsTo c.args.world.now.edition (step_view step)) c.args.steps.now c.loop-number.number
    c.index-steps-number.result c.loop-number-test.true c.requires in
    (search (rules), rw (c.loop-number.invariant, c.index-steps-number.is) here)
