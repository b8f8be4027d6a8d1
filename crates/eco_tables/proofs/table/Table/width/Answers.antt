use Rattle.eco_tables.proofs.Common.{ap, sym, ◌∙◌, Some}
use Rattle.eco_tables.proofs.Held.{place_within}
use Rattle.eco_tables.proofs.Rows.{ascends, column_width, no_width, widthless_in}
use Rattle.eco_tables.proofs.table.Table.width.Goals as goal

pub find_column-requires : goal.find_column-requires
find_column-requires c = rw c.as_slice.ensures.value (ascends _ _ c.self.invariant.kinds)

pub index-requires : goal.index-requires
index-requires c =
    rw c.self.inside.columns.ok.0 (place_within c.self.inside.columns.items c.in-Some.place c.args.id (rw c.as_slice.ensures.value at c.in-Some.ensures.found))

pub returns-in-Some-clause-width : goal.returns-in-Some-clause-width
returns-in-Some-clause-width c =
    rw (← c.self.view_is)
    (ap Some (c.width.ensures.width ∙ ap (λ x. x.width) c.index.ensures)
    ∙ sym (column_width c.self.inside.type_list c.self.inside.columns.items c.self.invariant.kinds c.in-Some.place c.args.id c.index.result.now
    (rw c.as_slice.ensures.value at c.in-Some.ensures.found)))

pub returns-in-None-clause-width : goal.returns-in-None-clause-width
returns-in-None-clause-width c =
    rw (← c.self.view_is)
    (sym (widthless_in c.self.inside.type_list c.self.inside.columns.items c.self.invariant.kinds c.args.id (sym c.if-has.ensures.is)
    (rw c.as_slice.ensures.value at c.in-None.ensures.absent)))

pub returns-in-None-2-clause-width : goal.returns-in-None-2-clause-width
returns-in-None-2-clause-width c =
    rw (← c.self.view_is) (sym (no_width c.self.inside.type_list c.self.inside.columns.items c.self.invariant.kinds c.args.id (sym c.if-has.ensures.is)))
