use Rattle.eco_tables.proofs.Common.{arith, ap, ◌∙◌, refl, length, ◌<◌, take_all, contents}
use Rattle.eco_tables.proofs.Held.{contents_kept, room_kept, room_more}
use Rattle.eco_tables.proofs.columns.reserve.Goals as goal

pub loop-column-init : goal.loop-column-init
loop-column-init c = record { same = refl; kept = λ b h. h; room = λ k d h. absurd (omega arith) }

pub returns-in_err-reserve-clause-same : goal.returns-in_err-reserve-clause-same
returns-in_err-reserve-clause-same c =
    contents_kept c.loop-column.columns c.loop-column.column-index c.column-item.result c.reserve.new.self (ap contents c.reserve.ensures.same)
    ∙ c.loop-column.invariant.same

pub returns-in_err-reserve-clause-kept : goal.returns-in_err-reserve-clause-kept
returns-in_err-reserve-clause-kept c = λ b h.
    room_kept b c.loop-column.columns c.loop-column.column-index c.column-item.result c.reserve.new.self (omega arith) c.reserve.ensures.kept
    (c.loop-column.invariant.kept b h)

pub loop-column-preserved : goal.loop-column-preserved
loop-column-preserved c =
    let within : c.loop-column.column-index < length c.loop-column.columns = omega arith in
    record {
      same = contents_kept c.loop-column.columns c.loop-column.column-index c.column-item.result c.reserve.new.self (ap contents c.reserve.ensures.same)
          ∙ c.loop-column.invariant.same;
      kept = λ b h.
          room_kept b c.loop-column.columns c.loop-column.column-index c.column-item.result c.reserve.new.self within c.reserve.ensures.kept
          (c.loop-column.invariant.kept b h);
      room = room_more c.args.more c.loop-column.columns c.loop-column.column-index c.reserve.new.self within c.in_ok-reserve.ensures.room
          c.loop-column.invariant.room;
    }

pub returns-clause-room : goal.returns-clause-room
returns-clause-room c =
    rw (take_all c.loop-column.column-index c.loop-column.columns (omega arith)) at c.loop-column.invariant.room
