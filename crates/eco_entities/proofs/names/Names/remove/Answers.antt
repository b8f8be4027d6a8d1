use Rattle.eco_entities.proofs.Common.{refl, sym, subst, cell_to, tag_of, get_by_text, HasMarkAt, IsAt}
use Rattle.eco_entities.proofs.Listings.{listed_still, spared}
use Rattle.eco_entities.proofs.names.Names.remove.Goals as goal

pub returns-then-is_marked-clause-others : goal.returns-then-is_marked-clause-others
returns-then-is_marked-clause-others c = λ other e apart beside.
    let old = c.args.self.now in
    let new = c.forget.new.self in
    listed_still old.table new.table (get_by_text old.spilled) (get_by_text new.spilled) other e
    (λ at. subst (λ t. IsAt t (cell_to (tag_of other) e)) (sym c.forget.ensures.table)
    (c.remove_unless.ensures.cells (cell_to (tag_of other) e) (spared c.args.index c.tag_of-tag.result c.args.kept e other beside) at))
    (λ marked. subst (λ t. HasMarkAt t (tag_of other)) (sym c.forget.ensures.table) (c.remove_unless.ensures.marks (tag_of other) marked))
    (c.forget.ensures.tree.others other apart)

pub returns-else-is_marked-clause-others : goal.returns-else-is_marked-clause-others
returns-else-is_marked-clause-others c = λ other e apart beside.
    let old = c.args.self.now in
    listed_still old.table c.remove_unless.new.self (get_by_text old.spilled) (get_by_text old.spilled) other e
    (c.remove_unless.ensures.cells (cell_to (tag_of other) e) (spared c.args.index c.tag_of-tag.result c.args.kept e other beside))
    (c.remove_unless.ensures.marks (tag_of other)) refl
