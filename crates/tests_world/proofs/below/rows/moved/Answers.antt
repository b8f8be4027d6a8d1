use Rattle.std.proofs.Common.{◌≢◌, refl, sym}
use Rattle.eco_ids.specs.declared.id.Id.TheVariants.{One}
use Rattle.tests_world.proofs.Widths.{different, two_agree, two_fit, two_kept, two_set}
use Rattle.tests_world.proofs.below.rows.moved.Goals as goal

pub set_value-requires-clause-fits : goal.set_value-requires-clause-fits
set_value-requires-clause-fits c =
    let from = c.in_ok-from.from in
    let apart : from ≢ c.in_ok-to.to = different c.insert.new.self from c.in_ok-to.to _ c.in_ok-from.ensures.sets.changed c.in_ok-to.ensures.vacant in
    let made = two_set _ _ from _ c.in_ok-from.ensures.sets refl in
    let beside = two_kept _ _ c.in_ok-to.to from _ c.in_ok-to.ensures.sets apart made in
    let roomy = two_set _ _ from _ c.reserve_rows.ensures.sets beside in
    two_fit c.push_row.new.self from (One (record { index = 9; generation = 0 })) _ (two_set _ _ from _ c.push_row.ensures roomy) refl

pub move_row-requires-clause-widths : goal.move_row-requires-clause-widths
move_row-requires-clause-widths c =
    let from = c.in_ok-from.from in
    let to = c.in_ok-to.to in
    let apart : from ≢ to = different c.insert.new.self from to _ c.in_ok-from.ensures.sets.changed c.in_ok-to.ensures.vacant in
    let back : to ≢ from = λ same. apart (sym same) in
    let made = two_kept _ _ to from _ c.in_ok-to.ensures.sets apart (two_set _ _ from _ c.in_ok-from.ensures.sets refl) in
    let pushed = two_set _ _ from _ c.push_row.ensures (two_set _ _ from _ c.reserve_rows.ensures.sets made) in
    let written = two_set _ _ from _ c.set_value.ensures.written pushed in
    let waived = two_kept _ _ to from _ c.waive.ensures apart written in
    let source = two_kept _ _ to from _ c.reserve_more.ensures.sets apart (two_kept _ _ to from _ c.shrink.ensures apart waived) in
    let new = two_set _ _ to _ c.in_ok-to.ensures.sets refl in
    let beside = two_kept _ _ from to _ c.push_row.ensures back (two_kept _ _ from to _ c.reserve_rows.ensures.sets back new) in
    let emptied = two_set _ _ to _ c.waive.ensures (two_kept _ _ from to _ c.set_value.ensures.written back beside) in
    let target = two_set _ _ to _ c.shrink.ensures emptied in
    two_agree c.reserve_more.new.self to from (two_set _ _ to _ c.reserve_more.ensures.sets target) source
