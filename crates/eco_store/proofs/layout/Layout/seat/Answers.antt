use Rattle.eco_store.proofs.Common.{length, refl, ap, ◌∙◌, Place, placed, changed, rows_in}
use Rattle.eco_store.proofs.Needing.{placed_covers}
use Rattle.eco_store.proofs.layout.Layout.seat.Goals as goal

pub returns : goal.returns
returns c =
    let n = c.args.slot in
    let at : Place = record { table = n; row = length (rows_in c.args.self.now.archetypes n) } in
    let end = c.row_count-row.ensures ∙ ap (λ s. length (rows_in s n)) c.tables.ensures.same in
    let is = c.set_place.ensures ∙ (λ t. changed c.args.self.now.entities c.args.e (placed (record { table = n; row = end t }))) in
    record {
      placed = is;
      row = c.push_row.ensures.row;
      covers = λ covers. placed_covers c.needs_never_grow.ensures _ _ _ c.args.e at is (c.push_row.ensures.widths _ covers);
      staying = refl;
    }
