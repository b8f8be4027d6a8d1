use Rattle.eco_tables.proofs.Common.{SetsSlot, rowless_type, slot_of, sym, ◌∙◌, subst, None, Some, set, ap, arith, is_some, refl, true≢false}
use Rattle.eco_tables.proofs.Common.{get_or_default}
use Rattle.eco_tables.proofs.Slots.{at_slot, dropped, none_is, rowless_ids, rowless_within, sets_slot, some_there}
use Rattle.eco_tables.proofs.tables.Tables.drop_empty.Goals as goal

pub invariant_of-self-2 : goal.invariant_of-self-2
invariant_of-self-2 c =
    let within = rowless_within c.self.inside.slots.items c.args.slot (rw (← c.self.view_is) at (sym c.if-not-is_rowless.ensures)) in
    let there = at_slot c.self.inside.slots.items c.args.slot c.index_mut.result.now c.in_ok-table.table c.index_mut.ensures.value within
    (sym c.take.ensures.value ∙ c.in_ok-table.was) in
    rw (c.take.ensures.after, c.push_reserved.ensures.items, c.push_reserved.ensures.capacity)
    (dropped _ _ _ c.self.invariant c.args.slot c.in_ok-table.table there)

pub returns-clause-dropped : goal.returns-clause-dropped
returns-clause-dropped c =
    let slots = c.self.inside.slots.items in
    let within = rowless_within slots c.args.slot (rw (← c.self.view_is) at (sym c.if-not-is_rowless.ensures)) in
    subst (λ s. SetsSlot s (set slots c.args.slot c.take.new.self) c.args.slot None) c.self.view_is
    (rw c.take.ensures.after (sets_slot slots c.args.slot None within))

pub index_mut-requires : goal.index_mut-requires
index_mut-requires c =
    let within = rowless_within c.self.inside.slots.items c.args.slot (rw (← c.self.view_is) at (sym c.if-not-is_rowless.ensures)) in
    omega (arith, within, c.self.inside.slots.ok.0)

pub push_reserved-requires : goal.push_reserved-requires
push_reserved-requires c =
    let within = rowless_within c.self.inside.slots.items c.args.slot (rw (← c.self.view_is) at (sym c.if-not-is_rowless.ensures)) in
    let there = at_slot c.self.inside.slots.items c.args.slot c.index_mut.result.now c.in_ok-table.table c.index_mut.ensures.value within
    (sym c.take.ensures.value ∙ c.in_ok-table.was) in
    let some = some_there _ _ _ c.self.invariant c.args.slot c.in_ok-table.table there in
    omega (arith, some, c.self.invariant.ready, c.self.inside.vacant.ok.0)

pub returns-clause-answer : goal.returns-clause-answer
returns-clause-answer c =
    let slots = c.self.inside.slots.items in
    let asked = rw (← c.self.view_is) at (sym c.if-not-is_rowless.ensures) in
    let there = at_slot slots c.args.slot c.index_mut.result.now c.in_ok-table.table c.index_mut.ensures.value (rowless_within slots c.args.slot asked)
    (sym c.take.ensures.value ∙ c.in_ok-table.was) in
    ap Some c.into_type_list.ensures ∙ sym (rowless_ids slots c.args.slot c.in_ok-table.table there asked)
    ∙ ap (λ s. rowless_type (slot_of s c.args.slot)) c.self.view_is

pub returns-then-not-is_rowless : goal.returns-then-not-is_rowless
returns-then-not-is_rowless c = record { answer = sym (none_is _ (sym c.if-not-is_rowless.ensures)); dropped = tt; kept = refl }

pub invariant_of-self : goal.invariant_of-self
invariant_of-self c =
    let slots = c.self.inside.slots.items in
    let asked = rw (← c.self.view_is) at (sym c.if-not-is_rowless.ensures) in
    let none = get_or_default slots c.args.slot None c.index_mut.result.now (rowless_within slots c.args.slot asked) ∙ sym c.index_mut.ensures.value
    ∙ sym c.take.ensures.value ∙ c.in_err-table.was in
    absurd (true≢false (sym asked ∙ ap (λ o. is_some (rowless_type o)) none))
