use Rattle.eco_index.proofs.Common.{◌<◌, length, subst, sym}
use Rattle.eco_index.proofs.SlotLists.{came, taken_at}
use Rattle.eco_index.proofs.id_index.slot_list.SlotList.take_at.Goals as goal

pub overflow_sub-away : goal.overflow_sub-away
overflow_sub-away c =
    let own = c.self.inside in
    let within : c.args.place < length own.slots.items = subst (λ l. c.args.place < length l.slots) (sym c.self.view_is) c.requires in
    let there : c.args.place < length c.swap_remove.new.self.items = rw (c.len.ensures, c.swap_remove.new.self.ok.0) at c.if-place-len.true in
    (came own.first own.slots.items own.places.items c.self.invariant c.args.place c.swap_remove.result _ _ within
    c.swap_remove.ensures.items there c.index.ensures).0

pub index_mut-requires : goal.index_mut-requires
index_mut-requires c =
    let own = c.self.inside in
    let within : c.args.place < length own.slots.items = subst (λ l. c.args.place < length l.slots) (sym c.self.view_is) c.requires in
    let there : c.args.place < length c.swap_remove.new.self.items = rw (c.len.ensures, c.swap_remove.new.self.ok.0) at c.if-place-len.true in
    rw own.places.ok.0
    ((came own.first own.slots.items own.places.items c.self.invariant c.args.place c.swap_remove.result _ _ within
    c.swap_remove.ensures.items there c.index.ensures).1)

pub returns-then-place-len-clause-taken : goal.returns-then-place-len-clause-taken
returns-then-place-len-clause-taken c =
    let own = c.self.inside in
    let within : c.args.place < length own.slots.items = subst (λ l. c.args.place < length l.slots) (sym c.self.view_is) c.requires in
    rw (← c.self.view_is) (taken_at own.first own.slots.items own.places.items c.self.invariant c.args.place c.swap_remove.result _ within
    c.swap_remove.ensures.value c.swap_remove.ensures.items)

pub returns-else-place-len-clause-taken : goal.returns-else-place-len-clause-taken
returns-else-place-len-clause-taken c =
    let own = c.self.inside in
    let within : c.args.place < length own.slots.items = subst (λ l. c.args.place < length l.slots) (sym c.self.view_is) c.requires in
    rw (← c.self.view_is) (taken_at own.first own.slots.items own.places.items c.self.invariant c.args.place c.swap_remove.result _ within
    c.swap_remove.ensures.value c.swap_remove.ensures.items)
