use Rattle.eco_entities.proofs.Common.{◌≡◌, subst, sym, get_by_text, string_bytes, nat_cmp, is_eq, slice_cmp, IsAt, HasMarkAt, cell_to, tag_of}
use Rattle.eco_entities.proofs.Copies.{lookup_keys}
use Rattle.eco_entities.proofs.Listings.{listed_still}
use Rattle.eco_entities.proofs.names.Names.try_copy.Goals as goal

pub returns : goal.returns
returns c = λ name e.
    let old = c.args.self.now in
    let same : get_by_text c.in_ok-spilled.spilled name ≡ get_by_text old.spilled name =
    lookup_keys string_bytes (λ text. is_eq (slice_cmp nat_cmp name text)) old.spilled.entries c.in_ok-spilled.spilled.entries
    c.in_ok-spilled.ensures.cases in
    listed_still old.table c.in_ok-table.table (get_by_text old.spilled) (get_by_text c.in_ok-spilled.spilled) name e
    (subst (λ t. IsAt t (cell_to (tag_of name) e)) (sym c.in_ok-table.ensures)) (subst (λ t. HasMarkAt t (tag_of name)) (sym c.in_ok-table.ensures)) same
