use Rattle.eco_workers.proofs.Common.{arith}
use Rattle.eco_workers.proofs.Placed.{empty_more}
use Rattle.eco_workers.proofs.order.empty_stages.Goals as goal

pub loop-preserved : goal.loop-preserved
loop-preserved c =
    let i = c.loop.invariant in
    record {
      room = omega (arith, i.room, c.push_reserved.ensures.capacity);
      empty = empty_more c.loop.counter c.new.result c.loop.stages.items c.push_reserved.new.self.items i.empty c.new.ensures c.push_reserved.ensures.items;
    }
