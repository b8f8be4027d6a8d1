use Rattle.eco_frame.proofs.BatchesCommon.{refl, key_pattern}
use Rattle.eco_frame.proofs.Orders.{map_more}
use Rattle.eco_frame.proofs.closed.append.Goals as goal

pub loop-key-preserved : goal.loop-key-preserved
loop-key-preserved c =
    map_more key_pattern c.args.keys.now c.loop-key.key-index _ _ c.args.closed.now.items c.loop-key.closed.items c.push.new.self.items c.loop-key-test.true
    c.loop-key.invariant refl c.in_ok-push.ensures.items
