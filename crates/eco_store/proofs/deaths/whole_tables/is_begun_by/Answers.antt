use Rattle.eco_store.proofs.Common.{◌≡◌, ◌++◌, drop, length, unwrap_or, sym, ap, ◌∙◌, option_copied, length-map, entity_eq-Decides, TableRow}
use Rattle.eco_store.proofs.Common.{TableState, entities_of, no_table, table_in, rows_in}
use Rattle.std.proofs.lemmas.Slice.Eq.{starts_is}
use Rattle.eco_store.proofs.deaths.whole_tables.is_begun_by.Goals as goal

pub returns : goal.returns
returns c =
    let dead = c.args.dead.now in
    let rows = rows_in c.args.tables.now c.args.slot in
    let table : table_in c.args.tables.now c.args.slot ≡ c.unwrap.result.now =
    ap (λ o. unwrap_or o no_table) (sym c.get.ensures ∙ ap option_copied c.unwrap.ensures) in
    let is : c.rows.result.now ≡ entities_of rows = c.rows.ensures ∙ ap (λ (t : TableState). entities_of t.rows) (sym table) in
    let long : length c.rows.result.now ≡ length rows = ap length is ∙ length-map rows (λ (r : TableRow). r.entity) in
    let begins = starts_is entity_eq-Decides dead c.rows.result.now c.starts_with.result c.starts_with.ensures.value in (
      λ h. begins.0 h ∙ (λ t. is t ++ drop (long t) dead),
      λ h. begins.1 (drop (length rows) dead) (h ∙ ap (λ es. es ++ drop (length rows) dead) (sym is)),
    )
