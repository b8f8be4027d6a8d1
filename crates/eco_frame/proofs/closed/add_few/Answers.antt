use Rattle.eco_frame.proofs.BatchesCommon.{ap, ◌∙◌, map, take_all, insert_all, same_pattern}
use Rattle.eco_frame.proofs.Once.{once_more}
use Rattle.eco_systems.specs.Writes as writes
use Rattle.eco_frame.proofs.closed.add_few.Goals as goal

pub loop-pattern-preserved : goal.loop-pattern-preserved
loop-pattern-preserved g c =
    once_more (writes.widened (g.H.Holdings.world c.args.holdings.now)) c.args.patterns.now c.loop-pattern.pattern-index _ c.args.closed.now.items
    c.loop-pattern.closed.items c.add_once.new.closed.items c.widened.result c.loop-pattern-test.true c.loop-pattern.invariant c.widened.ensures
    c.in_ok-add_once.ensures

pub returns : goal.returns
returns g c =
    c.loop-pattern.invariant
    ∙ ap (λ xs. insert_all same_pattern c.args.closed.now.items (map (writes.widened (g.H.Holdings.world c.args.holdings.now)) xs))
    (take_all c.loop-pattern.pattern-index c.args.patterns.now c.loop-pattern-test.false)
