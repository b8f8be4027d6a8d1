use Rattle.eco_tables.proofs.Common.{◌≡◌, ◌<◌, ℕ, ap, arith, nat_lt, sym, true, Some, ◌∙◌}
use Rattle.std.proofs.lemmas.Bool.Decides.{nat_tests}
use Rattle.eco_tables.proofs.Held.{has_place, place_within}
use Rattle.eco_tables.proofs.Kept.{wide}
use Rattle.eco_tables.proofs.Rows.{ascends, column_width, narrow, shown_rows, values_at}
use Rattle.eco_tables.proofs.table.Table.values.Goals as goal

is_some_wide : (n : ℕ) → 0 < n → true ≡ nat_lt 0 n
is_some_wide n some = grind (arith, nat_tests)

pub find_column-requires : goal.find_column-requires
find_column-requires c = rw c.as_slice.ensures.value (ascends _ _ c.self.invariant.kinds)

pub returns-in_err-place-clause-kept : goal.returns-in_err-place-clause-kept
returns-in_err-place-clause-kept c =
    let none = narrow c.self.inside.type_list c.self.inside.columns.items c.self.invariant.kinds c.args.id
    (rw c.as_slice.ensures.value at c.in_err-place.ensures.absent) in
    rw (← c.self.view_is, c.from_residual.ensures) (sym (ap (nat_lt 0) none))

pub index-requires : goal.index-requires
index-requires c =
    rw c.self.inside.columns.ok.0
    (place_within c.self.inside.columns.items c.in_ok-place.place c.args.id (rw c.as_slice.ensures.value at c.in_ok-place.ensures.found))

pub returns-clause-shown : goal.returns-clause-shown
returns-clause-shown c =
    rw (← c.self.view_is)
    (c.values.ensures.values ∙ ap (λ x. x.values) c.index.ensures
    ∙ values_at c.self.inside.columns.items c.self.inside.entities.items c.in_ok-place.place c.args.id c.index.result.now
    (rw c.as_slice.ensures.value at c.in_ok-place.ensures.found) (ascends _ _ c.self.invariant.kinds) c.self.invariant.even
    ∙ sym (shown_rows c.self.inside.type_list c.self.inside.columns.items c.self.invariant.kinds 0 c.self.inside.entities.items c.args.id))

pub returns-clause-fields : goal.returns-clause-fields
returns-clause-fields c =
    rw (← c.self.view_is)
    (column_width c.self.inside.type_list c.self.inside.columns.items c.self.invariant.kinds c.in_ok-place.place c.args.id c.index.result.now
    (rw c.as_slice.ensures.value at c.in_ok-place.ensures.found)
    ∙ sym (ap Some (c.values.ensures.fields ∙ ap (λ x. x.width) c.index.ensures)))

pub returns-clause-kept : goal.returns-clause-kept
returns-clause-kept c =
    let at = rw c.as_slice.ensures.value at c.in_ok-place.ensures.found in
    let some = wide c.self.inside.type_list c.self.inside.columns.items c.self.invariant.kinds c.args.id
    (has_place c.self.inside.columns.items c.in_ok-place.place c.args.id at) in
    rw (← c.self.view_is) (is_some_wide _ some)
