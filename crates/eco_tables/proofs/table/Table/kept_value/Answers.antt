use Rattle.eco_tables.proofs.Common.{◌<◌, ap, get_or, length, subst, sym, ◌∙◌, Some, zeros, ColumnState}
use Rattle.eco_tables.proofs.Held.{found_at, place_within}
use Rattle.eco_tables.proofs.Kept.{unkept}
use Rattle.eco_tables.proofs.Rows.{ascends}
use Rattle.eco_tables.proofs.Shapes.{found_read, row_in_columns, row_within}
use Rattle.eco_tables.proofs.table.Table.kept_value.Goals as goal

pub find_column-requires : goal.find_column-requires
find_column-requires c = rw c.as_slice.ensures.value (ascends _ _ c.self.invariant.kinds)

pub returns-in_err-place-clause-kept : goal.returns-in_err-place-clause-kept
returns-in_err-place-clause-kept c =
    rw (← c.self.view_is, c.from_residual.ensures)
    (unkept _ _ _ _ _ c.self.invariant c.args.row c.args.id
    (row_within _ _ _ _ _ c.self.invariant c.args.row (rw (← c.self.view_is) at c.requires))
    (rw c.as_slice.ensures.value at c.in_err-place.ensures.absent))

pub index-requires : goal.index-requires
index-requires c =
    rw c.self.inside.columns.ok.0
    (place_within c.self.inside.columns.items c.in_ok-place.place c.args.id (rw c.as_slice.ensures.value at c.in_ok-place.ensures.found))

pub told_value-requires : goal.told_value-requires
told_value-requires c =
    subst (λ (x : ColumnState). c.args.row < length x.values) (sym c.index.ensures)
    (row_in_columns _ _ _ _ _ c.self.invariant c.args.row (rw (← c.self.view_is) at c.requires) c.in_ok-place.place c.index.result.now
    (place_within c.self.inside.columns.items c.in_ok-place.place c.args.id (rw c.as_slice.ensures.value at c.in_ok-place.ensures.found)))

pub returns-clause-kept : goal.returns-clause-kept
returns-clause-kept c = λ r.
    let own = c.self.inside in
    let there = row_within _ _ _ _ _ c.self.invariant c.args.row (rw (← c.self.view_is) at c.requires) in
    rw (← c.self.view_is)
    (found_read _ _ _ _ _ c.self.invariant c.args.row c.args.id r c.told_value.result.0 there
    (found_at own.columns.items c.in_ok-place.place c.args.id (rw c.as_slice.ensures.value at c.in_ok-place.ensures.found)
    (λ x. get_or x.values c.args.row zeros) c.index.result.now (ascends _ _ c.self.invariant.kinds)
    ∙ sym (ap Some (c.told_value.ensures.value ∙ ap (λ x. get_or x.values c.args.row zeros) c.index.ensures))))
