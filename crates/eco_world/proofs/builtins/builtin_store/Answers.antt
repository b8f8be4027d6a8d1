use Rattle.eco_world.proofs.Common.{Some, arith, refl, err_from_is_err_and, may_make, record_name, first_entities}
use Rattle.eco_world.proofs.Starting.{builtin_made, builtin_refused}
use Rattle.eco_world.proofs.builtins.builtin_store.Goals as goal

pub returns-in_err-create-clause-err : goal.returns-in_err-create-clause-err
returns-in_err-create-clause-err c =
    let p = err_from_is_err_and c.from_residual-in_err-create.result c.from_residual-in_err-create.ensures.1 in
    rw (p.1, p.2)
    (builtin_refused c.args.limit c.loop-number.number (Some c.builtin_name.result.now) c.in_ok-type_list.type_list
    (omega (arith, c.requires.at_least, c.loop-number-test.true))
    (omega (arith, c.requires.few, c.loop-number-test.true)) c.builtin_name.ensures c.in_ok-type_list.ensures
    c.in_err-create.field-0.0 c.create.new.self.entities
    (may_make record_name (first_entities c.args.limit c.loop-number.number) (Some c.builtin_name.result.now))
    (rw c.loop-number.invariant at c.in_err-create.ensures.step))

pub loop-number-preserved : goal.loop-number-preserved
loop-number-preserved c =
    builtin_made c.args.limit c.loop-number.number (Some c.builtin_name.result.now) c.in_ok-type_list.type_list
    (omega (arith, c.requires.at_least, c.loop-number-test.true))
    (omega (arith, c.requires.few, c.loop-number-test.true)) c.builtin_name.ensures c.in_ok-type_list.ensures
    c.in_ok-create.field-0 c.create.new.self.entities
    (may_make record_name (first_entities c.args.limit c.loop-number.number) (Some c.builtin_name.result.now))
    (rw c.loop-number.invariant at c.in_ok-create.ensures.step)

pub returns-in_err-type_list-clause-err : goal.returns-in_err-type_list-clause-err
returns-in_err-type_list-clause-err c =
    let p = err_from_is_err_and c.from_residual.result c.from_residual.ensures.1 in
    rw (p.1, p.2) refl
