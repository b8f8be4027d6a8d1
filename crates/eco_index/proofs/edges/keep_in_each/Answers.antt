use Rattle.eco_index.proofs.Common.{arith}
use Rattle.eco_index.proofs.Sweeping.{swept_all}
use Rattle.eco_index.proofs.edges.keep_in_each.Goals as goal

pub returns : goal.returns
returns g c =
    swept_all (g.T.Occupancy.has_table c.args.tables.now) c.args.lists.now.items c.loop-slot.lists.items c.loop-slot.slot (omega arith)
    c.loop-slot.invariant.0
