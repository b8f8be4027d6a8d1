use Rattle.eco_index.proofs.Common.{true, arith, lists_of, matches_id, err_says}
use Rattle.eco_index.proofs.Keys.{kept_rest, turned_last, turned_more}
use Rattle.eco_index.proofs.id_index.IdIndex.add_each.Goals as goal

pub loop-id-preserved : goal.loop-id-preserved
loop-id-preserved c = (
  turned_more matches_id (lists_of c.args.self.now.slots) (lists_of c.loop-id.self.slots) (lists_of c.add_id.new.self.slots) c.args.ids.now c.loop-id.id-index _
      c.args.slot (omega arith) true c.loop-id.invariant.0 c.in_ok-add_id.ensures.ok,
  turned_last true _ (lists_of c.loop-id.self.slots) (lists_of c.add_id.new.self.slots) c.args.slot c.in_ok-add_id.ensures.ok,
)

pub returns-in_err-add_id-clause-err : goal.returns-in_err-add_id-clause-err
returns-in_err-add_id-clause-err c =
    err_says c.from_residual.result
    (kept_rest matches_id (lists_of c.args.self.now.slots) (lists_of c.loop-id.self.slots) (lists_of c.add_id.new.self.slots)
    c.args.ids.now c.loop-id.id-index _
    c.args.slot (omega arith) c.loop-id.invariant.0 c.in_err-add_id.ensures.err)
