use Rattle.eco_index.proofs.Common.{true, arith, AnyPair, has_key, lists_of, err_says}
use Rattle.eco_index.proofs.Keys.{kept_rest, turned_more}
use Rattle.eco_index.proofs.id_index.IdIndex.add_keys.Goals as goal

pub loop-key-preserved : goal.loop-key-preserved
loop-key-preserved c =
    turned_more has_key (lists_of c.args.self.now.slots) (lists_of c.loop-key.self.slots) (lists_of c.add.new.self.slots) c.args.keys.now c.loop-key.key-index _
    c.args.slot (omega arith) true c.loop-key.invariant c.in_ok-add.ensures.ok

pub returns-in_err-add-clause-err : goal.returns-in_err-add-clause-err
returns-in_err-add-clause-err c =
    err_says c.from_residual.result
    (kept_rest has_key (lists_of c.args.self.now.slots) (lists_of c.loop-key.self.slots)
    (lists_of c.add.new.self.slots) c.args.keys.now c.loop-key.key-index AnyPair
    c.args.slot (omega arith) c.loop-key.invariant (λ p n _. c.in_err-add.ensures.err p n))
