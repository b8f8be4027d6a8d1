use Rattle.eco_entities.proofs.Common.{cell_to, tag_of, get_by_text}
use Rattle.eco_entities.proofs.Listings.{listed_anew}
use Rattle.eco_entities.proofs.names.Names.widen.Goals as goal

pub returns-clause-same : goal.returns-clause-same
returns-clause-same c = λ name e.
    let old = c.args.self.now in
    let cell = cell_to (tag_of name) e in
    listed_anew old.table c.mark_all.new.table (get_by_text old.spilled) (get_by_text old.spilled) name e
    (λ at. c.mark_all.ensures.all.cells cell (c.in_ok-table.ensures.cells cell at)) (c.mark_all.ensures.marks name e)
