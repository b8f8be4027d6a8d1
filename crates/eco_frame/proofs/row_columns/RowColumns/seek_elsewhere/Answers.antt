use Rattle.eco_frame.proofs.Columns.{moved}
use Rattle.eco_frame.proofs.row_columns.RowColumns.seek_elsewhere.Goals as goal

pub returns-then-show-clause-run : goal.returns-then-show-clause-run
returns-then-show-clause-run c = moved c.args.self.now c.args.self.now.entity c.row_in-row.result c.requires.run
