use Rattle.eco_frame.proofs.Columns.{moved}
use Rattle.eco_frame.proofs.row_columns.RowColumns.seek.Goals as goal

pub show-requires-clause-run : goal.show-requires-clause-run
show-requires-clause-run c = moved c.args.self.now c.entity-self.result c.args.self.now.row c.requires.run

pub returns-then-show-clause-run : goal.returns-then-show-clause-run
returns-then-show-clause-run c = moved c.args.self.now c.entity-self.result c.saturating_add-next.result c.requires.run

pub seek_elsewhere-requires-clause-run : goal.seek_elsewhere-requires-clause-run
seek_elsewhere-requires-clause-run c = moved c.args.self.now c.entity-self.result c.args.self.now.row c.requires.run
