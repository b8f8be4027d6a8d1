use Rattle.eco_tables.proofs.Common.{◌≤◌, ◌+◌, arith, ◌∙◌, length, vec_capacity, table_of}
use Rattle.eco_tables.proofs.Rows.{refilled_columns, same_table}
use Rattle.eco_tables.proofs.Shapes.{shape_reserved}
use Rattle.eco_tables.proofs.table.Table.shrink.Goals as goal

pub shrink-requires : goal.shrink-requires
shrink-requires c =
    let asked : c.args.room ≤ c.self.inside.room = rw (← c.self.view_is) at c.requires in
    rw c.as_mut_slice.ensures.value (λ k d within. let had = c.self.invariant.roomy k d within in omega (arith, had, asked))

pub invariant_of-self : goal.invariant_of-self
invariant_of-self c =
    let own = c.self.inside in
    let kept = refilled_columns _ _ _ _ c.shrink.ensures.same c.as_mut_slice.ensures.value own.columns.ok.0 in
    let asked : c.args.room ≤ own.room = rw (← c.self.view_is) at c.requires in
    let fits : length own.entities.items + c.args.room ≤ vec_capacity c.shrink_to.new.self = omega
    (arith, asked, c.self.invariant.rows_room, c.shrink_to.ensures.lower_bound, c.len.ensures, own.entities.ok.0) in
    rw (kept.1, c.shrink_to.ensures.items)
    (shape_reserved _ _ _ _ _ c.self.invariant c.shrink.new.columns (vec_capacity c.shrink_to.new.self) c.args.room kept.0
    c.shrink.ensures.room fits)

pub returns : goal.returns
returns c =
    let own = c.self.inside in
    let kept = refilled_columns _ _ _ _ c.shrink.ensures.same c.as_mut_slice.ensures.value own.columns.ok.0 in
    rw (← c.self.view_is)
    ((λ t. table_of own.type_list (kept.1 t) (c.shrink_to.ensures.items t) c.args.room)
    ∙ same_table own.type_list own.entities.items own.columns.items c.shrink.new.columns c.args.room kept.0)
