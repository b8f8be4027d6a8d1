use Rattle.eco_bodies.proofs.Common.{map, rules, slot_view}
use Rattle.eco_bodies.proofs.Refused.{refused_here, refused_later}
use Rattle.eco_bodies.proofs.action.first_refusal.Goals as goal

pub returns-then-is_some : goal.returns-then-is_some
returns-then-is_some c =
    refused_here (map slot_view c.args.slots.now) c.args.actions.now c.loop-action.action-index _ c.refusal_of-refusal.result c.loop-action-test.true
    c.loop-action.invariant c.refusal_of-refusal.ensures (search rules)

pub loop-action-preserved : goal.loop-action-preserved
loop-action-preserved c =
    refused_later (map slot_view c.args.slots.now) c.args.actions.now c.loop-action.action-index _ c.refusal_of-refusal.result c.loop-action-test.true
    c.loop-action.invariant c.refusal_of-refusal.ensures (search rules)
