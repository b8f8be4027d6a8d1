use Rattle.eco_tables.proofs.Common.{Some, ◌≡◌, ◌≤◌, ◌+◌, length, arith}
use Rattle.std.specs.Prelude.{vec_capacity}
use Rattle.eco_tables.proofs.Slots.{added, pushed_slot, end_vacant}
use Rattle.eco_tables.proofs.tables.Tables.insert_last.Goals as goal

pub invariant_of-self : goal.invariant_of-self
invariant_of-self c = rw c.reserve.ensures.items c.self.invariant

pub invariant_of-self-in_err-reserve-2 : goal.invariant_of-self-in_err-reserve-2
invariant_of-self-in_err-reserve-2 c = rw (c.reserve.ensures.items, c.reserve-2.ensures.items, c.in_err-reserve-2.ensures.err) c.self.invariant

pub invariant_of-self-2 : goal.invariant_of-self-2
invariant_of-self-2 c =
    let none : length c.self.inside.vacant.items ≡ 0 = omega (arith, c.self.invariant.counted, (rw (← c.self.view_is) at c.requires.full)) in
    let room : length c.self.inside.slots.items + 1 ≤ vec_capacity c.reserve-2.new.self =
    omega (arith, c.in_ok-reserve-2.ensures.ok, c.len-slot.ensures) in
    rw (c.push_reserved.ensures.items, c.reserve.ensures.items, c.reserve-2.ensures.items)
    (added _ _ _ c.self.invariant _ c.args.table none room c.requires.rows c.requires.ascends)

pub returns-clause-sets : goal.returns-clause-sets
returns-clause-sets c =
    let last : c.len-slot.result ≡ length c.self.inside.slots.items = omega (arith, c.len-slot.ensures) in
    rw (c.push_reserved.ensures.items, c.reserve.ensures.items)
    (rw (← c.self.view_is) (pushed_slot c.self.inside.slots.items c.len-slot.result (Some c.args.table) last))

pub returns-clause-vacant : goal.returns-clause-vacant
returns-clause-vacant c =
    let last : c.len-slot.result ≡ length c.self.inside.slots.items = omega (arith, c.len-slot.ensures) in
    rw (← c.self.view_is) (end_vacant c.self.inside.slots.items c.len-slot.result last)
