use Rattle.eco_index.proofs.Common.{ap, arith, length}
use Rattle.eco_index.proofs.SlotLists.{swept}
use Rattle.eco_index.proofs.id_index.slot_list.SlotList.keep_there.Goals as goal

pub returns-clause-left : goal.returns-clause-left
returns-clause-left g c =
    swept (g.T.Occupancy.has_table c.args.tables.now) c.args.self.now.slots c.loop-place.self.slots c.loop-place.invariant.0
    (λ i within. c.loop-place.invariant.1 i (omega (arith, ap (λ l. length l.slots) c.self.view_is)))
