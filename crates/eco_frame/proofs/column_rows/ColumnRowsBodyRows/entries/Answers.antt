use Rattle.eco_frame.proofs.Runs.{rows_share}
use Rattle.eco_frame.proofs.column_rows.ColumnRowsBodyRows.entries.Goals as goal

pub returns : goal.returns
returns c = let r = c.args.self.now in rows_share r.entries.now r.columns.now r.first r.entities.now
