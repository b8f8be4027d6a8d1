use Rattle.eco_tables.proofs.Common.{◌≤◌, ◌+◌, ◌-◌, arith, ◌∙◌, length, err_says, vec_capacity, table_of}
use Rattle.eco_tables.proofs.Rows.{refilled_columns, same_table}
use Rattle.eco_tables.proofs.Shapes.{shape_reserved}
use Rattle.eco_tables.proofs.table.Table.grow.Goals as goal

pub invariant_of-self-in_err-reserve-2 : goal.invariant_of-self-in_err-reserve-2
invariant_of-self-in_err-reserve-2 c =
    let own = c.self.inside in
    let kept = refilled_columns _ _ _ _ c.reserve-2.ensures.same c.as_mut_slice.ensures.value own.columns.ok.0 in
    let fits : length own.entities.items + own.room ≤ vec_capacity c.reserve.new.self = omega
    (arith, c.self.invariant.rows_room, c.reserve.ensures.capacity) in
    rw (kept.1, c.reserve.ensures.items)
    (shape_reserved _ _ _ _ _ c.self.invariant c.reserve-2.new.columns (vec_capacity c.reserve.new.self) own.room kept.0
    (c.reserve-2.ensures.kept own.room (rw c.as_mut_slice.ensures.value c.self.invariant.roomy)) fits)

pub invariant_of-self-2 : goal.invariant_of-self-2
invariant_of-self-2 c =
    let own = c.self.inside in
    let room = c.capacity.result - c.len.result in
    let kept = refilled_columns _ _ _ _ c.reserve-2.ensures.same c.as_mut_slice.ensures.value own.columns.ok.0 in
    let fits : length own.entities.items + room ≤ vec_capacity c.reserve.new.self = omega
    (arith, c.in_ok-reserve.ensures.ok, c.reserve.ensures.len, own.entities.ok.0, c.capacity.ensures, c.len.ensures) in
    rw (kept.1, c.reserve.ensures.items)
    (shape_reserved _ _ _ _ _ c.self.invariant c.reserve-2.new.columns (vec_capacity c.reserve.new.self) room kept.0
    c.in_ok-reserve-2.ensures.room fits)

pub returns-in_err-reserve-2-clause-same : goal.returns-in_err-reserve-2-clause-same
returns-in_err-reserve-2-clause-same c =
    let own = c.self.inside in
    let kept = refilled_columns _ _ _ _ c.reserve-2.ensures.same c.as_mut_slice.ensures.value own.columns.ok.0 in
    rw (← c.self.view_is)
    ((λ t. table_of own.type_list (kept.1 t) (c.reserve.ensures.items t) own.room)
    ∙ same_table own.type_list own.entities.items own.columns.items c.reserve-2.new.columns own.room kept.0)

pub returns-clause-same : goal.returns-clause-same
returns-clause-same c =
    let own = c.self.inside in
    let room = c.capacity.result - c.len.result in
    let kept = refilled_columns _ _ _ _ c.reserve-2.ensures.same c.as_mut_slice.ensures.value own.columns.ok.0 in
    rw (← c.self.view_is)
    ((λ t. table_of own.type_list (kept.1 t) (c.reserve.ensures.items t) room)
    ∙ same_table own.type_list own.entities.items own.columns.items c.reserve-2.new.columns room kept.0)

pub returns-in_err-reserve-2-clause-err : goal.returns-in_err-reserve-2-clause-err
returns-in_err-reserve-2-clause-err c =
    let own = c.self.inside in
    let kept = refilled_columns _ _ _ _ c.reserve-2.ensures.same c.as_mut_slice.ensures.value own.columns.ok.0 in
    err_says c.from_residual-in_err-reserve-2.result
    (rw (← c.self.view_is)
    ((λ t. table_of own.type_list (kept.1 t) (c.reserve.ensures.items t) own.room)
    ∙ same_table own.type_list own.entities.items own.columns.items c.reserve-2.new.columns own.room kept.0))
