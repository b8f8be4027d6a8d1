use Rattle.eco_tables.proofs.Common.{◌≡◌, [], Some, arith, ap, sym, set, subst, SetsSlot}
use Rattle.eco_tables.proofs.RowIds.{none_lacks}
use Rattle.eco_tables.proofs.Slots.{reused, reused_slot, sets_slot}
use Rattle.eco_tables.proofs.tables.Tables.insert.Goals as goal

pub invariant_of-self : goal.invariant_of-self
invariant_of-self c =
    let none : [] ≡ c.in_ok-table.table.rows = sym (ap (λ t. t.rows) c.in_ok-table.ensures.is) in
    rw c.in-Some.ensures.capacity
    (reused _ _ _ c.self.invariant c.pop.new.self.items c.in-Some.slot c.in_ok-table.table c.in-Some.ensures.items (none_lacks c.in_ok-table.table none)
    c.in_ok-table.ensures.ascends)

pub returns-in-Some-clause-vacant : goal.returns-in-Some-clause-vacant
returns-in-Some-clause-vacant c =
    rw (← c.self.view_is) (reused_slot _ _ _ c.self.invariant c.pop.new.self.items c.in-Some.slot c.in-Some.ensures.items).1

pub returns-in-Some-clause-sets : goal.returns-in-Some-clause-sets
returns-in-Some-clause-sets c =
    rw (← c.self.view_is)
    (subst (λ t. SetsSlot c.self.inside.slots.items (set c.self.inside.slots.items c.in-Some.slot (Some c.in_ok-table.table)) c.in-Some.slot (Some t))
    c.in_ok-table.ensures.is
    (sets_slot c.self.inside.slots.items c.in-Some.slot (Some c.in_ok-table.table)
    (reused_slot _ _ _ c.self.invariant c.pop.new.self.items c.in-Some.slot c.in-Some.ensures.items).0))

pub index_mut-requires : goal.index_mut-requires
index_mut-requires c =
    let within = (reused_slot _ _ _ c.self.invariant c.pop.new.self.items c.in-Some.slot c.in-Some.ensures.items).0 in
    omega (arith, within, c.self.inside.slots.ok.0)

pub insert_last-requires-clause-rows : goal.insert_last-requires-clause-rows
insert_last-requires-clause-rows c =
    let none : [] ≡ c.in_ok-table.table.rows = sym (ap (λ t. t.rows) c.in_ok-table.ensures.is) in
    none_lacks c.in_ok-table.table none
