use Rattle.eco_tables.proofs.Common.{ap, sym, ◌∙◌, find, id_cmp, held_in}
use Rattle.eco_tables.proofs.Rows.{ascends}
use Rattle.eco_tables.proofs.Shapes.{found_read, none_read, row_in_columns, row_within, zeros_read}
use Rattle.eco_tables.proofs.table.Table.find_value.Goals as goal

pub find_value-requires-clause-ascending : goal.find_value-requires-clause-ascending
find_value-requires-clause-ascending c = rw c.as_slice.ensures.value (ascends _ _ c.self.invariant.kinds)

pub find_value-requires-clause-row : goal.find_value-requires-clause-row
find_value-requires-clause-row c = rw c.as_slice.ensures.value (row_in_columns _ _ _ _ _ c.self.invariant c.args.row (rw (← c.self.view_is) at c.requires))

pub returns-in-Some : goal.returns-in-Some
returns-in-Some c = λ r.
    let there = row_within _ _ _ _ _ c.self.invariant c.args.row (rw (← c.self.view_is) at c.requires) in
    rw (← c.self.view_is)
    (sym (found_read _ _ _ _ _ c.self.invariant c.args.row c.args.id r c.in-Some.value there
    (sym (c.in-Some.ensures ∙ ap (λ cs. find id_cmp c.args.id (held_in cs c.args.row)) c.as_slice.ensures.value))))

pub returns-in-None : goal.returns-in-None
returns-in-None c = λ r.
    let there = row_within _ _ _ _ _ c.self.invariant c.args.row (rw (← c.self.view_is) at c.requires) in
    rw (← c.self.view_is)
    (sym (zeros_read _ _ _ _ _ c.self.invariant c.args.row c.args.id r there
    (sym (c.in-None.ensures ∙ ap (λ cs. find id_cmp c.args.id (held_in cs c.args.row)) c.as_slice.ensures.value)) (sym c.if-has.ensures.is)))

pub returns-in-None-2 : goal.returns-in-None-2
returns-in-None-2 c = λ r.
    let there = row_within _ _ _ _ _ c.self.invariant c.args.row (rw (← c.self.view_is) at c.requires) in
    rw (← c.self.view_is) (sym (none_read _ _ _ _ _ c.self.invariant c.args.row c.args.id r there (sym c.if-has.ensures.is)))
