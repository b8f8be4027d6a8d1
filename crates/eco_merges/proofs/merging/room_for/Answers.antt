use Rattle.eco_merges.proofs.Common.{◌≡◌, ◌≤◌, ◌<◌, length, get_or, ap, subst, take_all, arith, all_commands}
use Rattle.eco_merges.proofs.Merges.{count_more, some_there, all_fit}
use Rattle.eco_merges.proofs.merging.room_for.Goals as goal

pub loop-stage-preserved : goal.loop-stage-preserved
loop-stage-preserved c =
    let i = c.loop-stage.stage-index in
    let s = c.stage-item.result in
    let was = c.loop-stage.invariant in
    let sum = c.saturating_add-count.ensures in
    let more = count_more c.args.stages.now i s c.loop-stage-test.true in
    let there : length s ≡ length (get_or c.args.stages.now i s) = ap length c.stage-item.is in
    record {
      most = omega (arith, sum, more, there, was.most, c.len.ensures);
      least = λ few. let fewer : c.loop-stage.count < 18446744073709551615 = omega (arith, few, sum) in
          omega (arith, few, sum, more, there, c.len.ensures, was.least fewer);
    }

pub returns-clause-room : goal.returns-clause-room
returns-clause-room c =
    let all = take_all c.loop-stage.stage-index c.args.stages.now c.loop-stage-test.false in
    let was = c.loop-stage.invariant in
    let n = c.loop-stage.count in
    all_fit (all_commands c.args.stages.now) n (subst (λ ss. n ≤ length (all_commands ss)) all was.most) (λ o. o.room)
    (subst (λ ss. n < 18446744073709551615 → length (all_commands ss) ≤ n) all was.least)
    c.with_room.result c.with_room.ensures.small c.with_room.ensures.room

pub returns-clause-err : goal.returns-clause-err
returns-clause-err c =
    let all = take_all c.loop-stage.stage-index c.args.stages.now c.loop-stage-test.false in
    some_there (all_commands c.args.stages.now) c.loop-stage.count (subst (λ ss. c.loop-stage.count ≤ length (all_commands ss)) all c.loop-stage.invariant.most)
    c.with_room.result c.with_room.ensures.err
