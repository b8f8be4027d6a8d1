use Rattle.eco_ids.specs.Run.{Set}
use Rattle.eco_frame.proofs.Columns.{none_from, none_into}
use Rattle.eco_frame.proofs.column_row.ColumnRowBodyRow.set_sum.Goals as goal

pub returns-in_default-clause-ok : goal.returns-in_default-clause-ok
returns-in_default-clause-ok c =
    let row = c.args.self.now in
    none_from (λ sum. Set row.entity c.args.id sum) c.args.stage.now row.row row.columns.now c.args.into c.args.from c.in_default.ensures'.lookup

pub returns-in_default-2-clause-ok : goal.returns-in_default-2-clause-ok
returns-in_default-2-clause-ok c =
    let row = c.args.self.now in
    none_into (λ sum. Set row.entity c.args.id sum) c.args.stage.now row.row row.columns.now c.args.into c.args.from c.in_default.ensures.lookup
