use Rattle.eco_frame.proofs.Common.{sym}
use Rattle.eco_frame.proofs.Runs.{rows_count}
use Rattle.eco_frame.proofs.column_rows.ColumnRowsBodyRows.len.Goals as goal

pub returns : goal.returns
returns c = let r = c.args.self.now in sym (rows_count r.entries.now r.columns.now r.first r.entities.now)
