use Rattle.eco_script.proofs.Common.{refl, err_from_is_err_and, actions_view}
use Rattle.eco_script.proofs.Declared.{added_system, refused_body, refused_name, refused_query}
use Rattle.eco_script.proofs.perform.system.Goals as goal

pub returns-in_err-query : goal.returns-in_err-query
returns-in_err-query c =
    let p = err_from_is_err_and c.from_residual.result c.from_residual.ensures.1 in
    rw (p.1, p.2)
    (refused_query c.args.world.now c.args.systems.now c.args.name.now c.args.phase c.args.text.now (actions_view c.args.actions)
    c.in_err-query.field-0.0 c.in_err-query.ensures)

pub returns-in_err-body : goal.returns-in_err-body
returns-in_err-body c =
    let p = err_from_is_err_and c.from_residual-in_err-body.result c.from_residual-in_err-body.ensures.1 in
    rw (p.1, p.2)
    (refused_body c.args.world.now c.args.systems.now c.args.name.now c.args.phase c.args.text.now (actions_view c.args.actions) c.in_ok-query.query
    c.in_ok-query.ensures c.in_err-body.field-0.0 c.in_err-body.ensures)

pub returns-in-Ok : goal.returns-in-Ok
returns-in-Ok c =
    added_system c.args.world.now c.args.systems.now c.args.name.now c.args.phase c.args.text.now (actions_view c.args.actions) c.in_ok-query.query
    c.in_ok-query.ensures c.in_ok-body.body c.add.new.self (c.in_ok-body.ensures refl) c.in-Ok.ensures.refused c.in-Ok.ensures.added

pub returns-in-Err : goal.returns-in-Err
returns-in-Err c =
    rw c.in-Err.ensures.kept
    (refused_name c.args.world.now c.args.systems.now c.args.name.now c.args.phase c.args.text.now (actions_view c.args.actions) c.in_ok-query.query
    c.in_ok-query.ensures c.in_ok-body.body c.in-Err.not_added.refusal (c.in_ok-body.ensures refl) c.in-Err.ensures.refused)
