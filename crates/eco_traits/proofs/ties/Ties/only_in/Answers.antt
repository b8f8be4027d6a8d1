use Rattle.eco_traits.proofs.CleanupCommon.{◌≡◌, filter, length, unwrap_or, sym, ap, ◌∙◌, subst, IsTrue, arith, id_cmp, is_ascending, names_entity}
use Rattle.eco_traits.proofs.CleanupCommon.{TableState, entities_of, no_table, table_in}
use Rattle.eco_traits.proofs.OnlyFound.{first_alone, found_only}
use Rattle.eco_traits.proofs.ties.Ties.only_in.Goals as goal

pub returns-clause-only : goal.returns-clause-only
returns-clause-only c =
    let v = c.args.self.now.places.now.entities in
    let slots = c.args.self.now.places.now.slots in
    let n = c.in-Named.slot in
    let m = c.args.member in
    let here : table_in slots n ≡ c.in_ok-table.table.now = sym (ap (λ o. unwrap_or o no_table) c.in_ok-table.ensures) in
    let ids : (table_in slots n).ids ≡ c.type_list.result.now = ap (λ (t : TableState). t.ids) here ∙ sym c.type_list.ensures.ids in
    let one : length c.rows-rows.result.now ≡ 1 = omega (arith, c.if-rows-ne1.false) in
    let rows = ap (λ (t : TableState). entities_of t.rows) here ∙ sym c.rows-rows.ensures ∙ first_alone c.rows-rows.result.now _ one in
    found_only v slots c.requires.shown m n _ c.in_ok-id.id (λ b h. c.requires.alone b h ∙ c.in-Named.is)
    (ap (filter (λ j. names_entity j m)) ids ∙ c.in_ok-id.ensures.only) rows
    (subst (λ xs. IsTrue (is_ascending id_cmp xs)) (sym ids) c.in_ok-id.ensures.ascending)
    (sym c.is.ensures.is ∙ c.if-is.false) (sym c.names_on.ensures ∙ c.if-names_on.false)
