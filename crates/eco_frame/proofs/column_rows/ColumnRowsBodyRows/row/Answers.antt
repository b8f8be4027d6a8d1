use Rattle.eco_frame.proofs.Common.{◌+◌, ◌<◌, Some, ap, get_or_from_slice_get, map, subst, sym, ◌∙◌}
use Rattle.eco_frame.specs.Rows.{shown_in}
use Rattle.eco_frame.proofs.Runs.{row_there, rows_count}
use Rattle.eco_frame.proofs.column_rows.ColumnRowsBodyRows.row.Goals as goal

pub seat-row-requires : goal.seat-row-requires
seat-row-requires c =
    let r = c.args.self.now in
    subst (λ n. c.args.place < n) (rows_count r.entries.now r.columns.now r.first r.entities.now) c.requires

pub returns : goal.returns
returns c =
    let r = c.args.self.now in
    let e = c.seat-row.result.0 in
    let place = c.args.place in
    let there = subst (λ n. place < n) (rows_count r.entries.now r.columns.now r.first r.entities.now) c.requires in
    row_there r.entries.now r.columns.now r.first place r.entities.now e there
    ∙ ap (λ a. Some (record { entity = a; entries = r.entries.now; values = map (shown_in (r.first + place)) r.columns.now }))
    (get_or_from_slice_get r.entities.now place e e c.seat-row.ensures.0)
    ∙ ap (λ n. Some (record { entity = e; entries = r.entries.now; values = map (shown_in n) r.columns.now })) (sym c.seat-row.ensures.1)
