use Rattle.eco_store.proofs.Common.{◌≡◌, ◌+◌, sym, ap, ◌∙◌, subst, arith, unwrap_or, IsTrue, get_or, option_copied, Entity, changed, is_alive}
use Rattle.eco_store.proofs.Common.{placed, TableState, entities_of, table_in, no_table}
use Rattle.eco_store.proofs.WholeMoves.{places_before, row_fits, seat_of_row, next_alive, next_placed}
use Rattle.eco_store.proofs.transfer.Transfer.place_rows.Goals as goal

pub loop-row-init : goal.loop-row-init
loop-row-init c = record { placed = sym (places_before c.args.entities.now c.args.self c.row_count-end.result) }

pub set_place-requires-clause-fits : goal.set_place-requires-clause-fits
set_place-requires-clause-fits c =
    let table : table_in c.args.tables.now c.args.self.from ≡ c.unwrap.result.now =
    ap (λ o. unwrap_or o no_table) (sym c.get.ensures ∙ ap option_copied c.unwrap.ensures) in
    row_fits c.args.entities.now c.args.tables.now c.args.self.from c.args.self.to c.loop-row.row c.row_count-end.result c.rows-moved.result.now
    c.rules.ensures c.requires.store (c.rows-moved.ensures ∙ ap (λ (t : TableState). entities_of t.rows) (sym table)) c.loop-row-test.true
    c.row_count-end.ensures

pub overflow_add-end : goal.overflow_add-end
overflow_add-end c =
    let table : table_in c.args.tables.now c.args.self.from ≡ c.unwrap.result.now =
    ap (λ o. unwrap_or o no_table) (sym c.get.ensures ∙ ap option_copied c.unwrap.ensures) in
    let fits =
    row_fits c.args.entities.now c.args.tables.now c.args.self.from c.args.self.to c.loop-row.row c.row_count-end.result c.rows-moved.result.now
    c.rules.ensures c.requires.store (c.rows-moved.ensures ∙ ap (λ (t : TableState). entities_of t.rows) (sym table)) c.loop-row-test.true
    c.row_count-end.ensures in
    omega (arith, fits)

pub set_place-requires-clause-alive : goal.set_place-requires-clause-alive
set_place-requires-clause-alive c =
    let es = c.rows-moved.result.now in
    let d : Entity = record { index = 0; generation = 0 } in
    let e = get_or es c.loop-row.row d in
    let table : table_in c.args.tables.now c.args.self.from ≡ c.unwrap.result.now =
    ap (λ o. unwrap_or o no_table) (sym c.get.ensures ∙ ap option_copied c.unwrap.ensures) in
    let there : es ≡ entities_of (table_in c.args.tables.now c.args.self.from).rows =
    c.rows-moved.ensures ∙ ap (λ (t : TableState). entities_of t.rows) (sym table) in
    let seat = seat_of_row c.args.entities.now c.args.tables.now c.args.self.from c.loop-row.row es d c.requires.store there c.loop-row-test.true in
    subst (λ x. IsTrue (is_alive x e)) (sym c.loop-row.invariant.placed)
    (next_alive c.args.entities.now c.args.tables.now c.requires.store c.args.self c.row_count-end.result c.loop-row.row e seat)

pub loop-row-preserved : goal.loop-row-preserved
loop-row-preserved c =
    let es = c.rows-moved.result.now in
    let d : Entity = record { index = 0; generation = 0 } in
    let e = get_or es c.loop-row.row d in
    let table : table_in c.args.tables.now c.args.self.from ≡ c.unwrap.result.now =
    ap (λ o. unwrap_or o no_table) (sym c.get.ensures ∙ ap option_copied c.unwrap.ensures) in
    let there : es ≡ entities_of (table_in c.args.tables.now c.args.self.from).rows =
    c.rows-moved.ensures ∙ ap (λ (t : TableState). entities_of t.rows) (sym table) in
    let seat = seat_of_row c.args.entities.now c.args.tables.now c.args.self.from c.loop-row.row es d c.requires.store there c.loop-row-test.true in
    record {
      placed =
          c.set_place.ensures
          ∙ ap (λ x. changed x e (placed (record { table = c.args.self.to; row = c.row_count-end.result + c.loop-row.row }))) c.loop-row.invariant.placed
          ∙ next_placed c.args.entities.now c.args.tables.now c.requires.store c.args.self c.row_count-end.result c.loop-row.row e seat;
    }
