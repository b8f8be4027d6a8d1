use Rattle.eco_index.proofs.Common.{false, arith, lists_of, matches_id}
use Rattle.eco_index.proofs.Keys.{turned_last, turned_more}
use Rattle.eco_index.proofs.id_index.IdIndex.take_all.Goals as goal

pub loop-id-preserved : goal.loop-id-preserved
loop-id-preserved c = (
  turned_more matches_id (lists_of c.args.self.now.slots) (lists_of c.loop-id.self.slots) (lists_of c.take_id.new.self.slots)
      c.args.ids.now c.loop-id.id-index _
      c.args.slot (omega arith) false c.loop-id.invariant.0 c.take_id.ensures,
  turned_last false _ (lists_of c.loop-id.self.slots) (lists_of c.take_id.new.self.slots) c.args.slot c.take_id.ensures,
)
