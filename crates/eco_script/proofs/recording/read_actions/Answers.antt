use Rattle.eco_script.proofs.FormatsCommon.{Ok, ◌+◌, arith, subst, sym, take, take_all, err_from_is_err_and, action_view, actions_view, ReadsAction}
use Rattle.eco_script.proofs.FormatsCommon.{ReadsActions}
use Rattle.eco_script.proofs.Recorded.{one_more, one_refused, some_within}
use Rattle.eco_script.proofs.recording.read_actions.Goals as goal

pub unwrap-requires : goal.unwrap-requires
unwrap-requires c =
    some_within action_view c.get.result (actions_view c.args.actions) c.loop-place.place c.get.ensures
    (rw c.len-place-end.ensures at c.loop-place-test.true)

pub loop-place-preserved : goal.loop-place-preserved
loop-place-preserved c =
    let acts = actions_view c.args.actions in
    record {
      read = subst (λ xs. ReadsActions c.args.world.now (take (c.loop-place.place + 1) acts) (Ok xs)) (sym c.push_reserved.ensures.items)
          (one_more (ReadsAction c.args.world.now) action_view acts c.loop-place.place _ _ c.get.ensures c.unwrap.ensures c.loop-place.read.items
          c.loop-place.invariant.read c.in_ok-action.action c.in_ok-action.ensures);
      count = omega (arith, c.push_reserved.ensures.len, c.loop-place.invariant.count);
      room = omega (arith, c.push_reserved.ensures.capacity, c.loop-place.invariant.room);
    }

pub returns-in_err-action-clause-read : goal.returns-in_err-action-clause-read
returns-in_err-action-clause-read c =
    let p = err_from_is_err_and c.from_residual-in_err-action.result c.from_residual-in_err-action.ensures.1 in
    rw (p.1, p.2) (λ _.
    one_refused (ReadsAction c.args.world.now) action_view (actions_view c.args.actions) c.loop-place.place _ _ c.get.ensures c.unwrap.ensures
    c.loop-place.read.items c.loop-place.invariant.read c.in_err-action.field-0.0 c.in_err-action.ensures)

pub returns-clause-read : goal.returns-clause-read
returns-clause-read c = λ _.
    subst (λ xs. ReadsActions c.args.world.now xs (Ok c.loop-place.read.items))
    (take_all c.loop-place.place (actions_view c.args.actions) (rw c.len-place-end.ensures at c.loop-place-test.false)) c.loop-place.invariant.read
