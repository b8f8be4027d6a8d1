use Rattle.eco_frame.proofs.Common.{ap, entry_values, ◌∙◌}
use Rattle.eco_frame.specs.Rows.{lent_in}
use Rattle.eco_frame.proofs.Columns.{own_shown}
use Rattle.eco_frame.proofs.row_columns.RowColumns.renew.Goals as goal

pub returns-clause-at : goal.returns-clause-at
returns-clause-at c =
    let s = c.args.self.now in
    let found = c.args.found.now in
    let entries = c.entries-entries.result.now in
    own_shown s.world.now s.query.now s.rows.now c.args.place s.entity entries c.push_columns.new.columns.items
    c.requires.rows c.requires.place c.requires.own c.entries-entries.ensures found c.row_in-self.result c.requires.dead c.requires.lent c.requires.there
    c.row_in-self.ensures (λ row. c.push_columns.ensures row ∙ ap (λ q. entry_values (lent_in found row) q entries) c.slots.ensures)
