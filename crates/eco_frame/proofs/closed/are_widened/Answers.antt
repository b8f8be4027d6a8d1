use Rattle.eco_frame.proofs.BatchesCommon.{sym, take, true≢false}
use Rattle.eco_frame.proofs.Once.{widened_first}
use Rattle.eco_systems.specs.Writes as writes
use Rattle.eco_frame.proofs.closed.are_widened.Goals as goal

pub returns-in-None : goal.returns-in-None
returns-in-None g c = (
  λ t. absurd (true≢false (sym t)),
  λ made.
      let more =
      widened_first (writes.widened (g.H.Holdings.world c.args.holdings.now)) c.args.patterns.now c.loop-pattern.pattern-index _ c.args.closed.now
      (take c.loop-pattern.found c.args.closed.now) c.widened.result c.loop-pattern-test.true c.loop-pattern.invariant.made c.widened.ensures made in
      absurd (c.in-None.ensures.none more.0 more.1),
)
