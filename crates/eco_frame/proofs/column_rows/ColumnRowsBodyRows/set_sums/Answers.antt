use Rattle.eco_frame.proofs.Common.{Some, sym}
use Rattle.std.proofs.lemmas.Result.{on_ok_weaker}
use Rattle.eco_frame.proofs.Runs.{nothing_from, nothing_into, sums_set}
use Rattle.eco_frame.proofs.Shown.{found}
use Rattle.eco_frame.proofs.column_rows.ColumnRowsBodyRows.set_sums.Goals as goal

pub returns-in-Some-Some : goal.returns-in-Some-Some
returns-in-Some-Some c =
    let r = c.args.self.now in
    on_ok_weaker c.set_sums.result
    (sums_set r.entries.now r.columns.now c.args.into c.args.from c.args.id c.in-Some-Some.column.now c.in-Some-Some.other.now
    (sym (found r.columns.now c.args.into (Some c.in-Some-Some.column) c.in-Some-Some.ensures.lookup))
    (sym (found r.columns.now c.args.from (Some c.in-Some-Some.other) c.in-Some-Some.ensures'.lookup)) r.first r.entities.now c.args.stage.now
    c.set_sums.new.stage)
    c.set_sums.ensures

pub returns-in_default : goal.returns-in_default
returns-in_default c =
    let r = c.args.self.now in
    nothing_from r.entries.now r.columns.now c.args.into c.args.from c.args.id c.in_default.ensures'.lookup r.first r.entities.now c.args.stage.now

pub returns-in_default-2 : goal.returns-in_default-2
returns-in_default-2 c =
    let r = c.args.self.now in
    nothing_into r.entries.now r.columns.now c.args.into c.args.from c.args.id c.in_default.ensures.lookup r.first r.entities.now c.args.stage.now
