use Rattle.eco_world.proofs.Common.{sym, ◌∙◌, arith, id_cmp}
use Rattle.eco_world.proofs.TypeOrder.{found, over, passed}
use Rattle.eco_world.proofs.type_order.is_below.Goals as goal

pub returns-in-Some : goal.returns-in-Some
returns-in-Some c =
    let inv = c.loop-place.invariant in
    let m = inv.0 in
    let t = c.loop-place-test.true in
    found id_cmp c.args.ids.now c.args.others.now c.loop-place.place _ _ c.in-Some.is_first (omega arith) inv.2 (sym c.in-Some.is ∙ c.decide.ensures)

pub loop-place-preserved : goal.loop-place-preserved
loop-place-preserved c =
    let inv = c.loop-place.invariant in
    let m = inv.0 in
    let t = c.loop-place-test.true in
    (m, omega arith, passed id_cmp c.args.ids.now c.args.others.now c.loop-place.place _ _ (omega arith) inv.2 (sym c.in_default.is ∙ c.decide.ensures))

pub returns : goal.returns
returns c =
    let inv = c.loop-place.invariant in
    let m = inv.0 in
    let p = inv.1 in
    let t = c.loop-place-test.false in
    over id_cmp c.args.ids.now c.args.others.now c.loop-place.place (omega arith) inv.2
