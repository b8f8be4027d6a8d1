use Rattle.eco_entities.proofs.Common.{refl, None, arith, label_of, newcomer, placed, with_new}
use Rattle.eco_entities.proofs.Marks.{ShowsMarked, next_slot, slot_settled}
use Rattle.eco_entities.proofs.slots.Slots.settle_at.Goals.{Else-not-put_in_room}
use Rattle.eco_entities.proofs.slots.Slots.settle_at.Goals as goal

pub put_in_room-requires : goal.put_in_room-requires
put_in_room-requires c = next_slot c.self.inside c.args.self.now c.self.invariant c.self.view_is _ c.requires.next

-- it lives where the next entity does
settled : (c : Else-not-put_in_room) → ShowsMarked c.self.inside.limit (label_of c.self.inside.labels) c.put_in_room.new.slots.items
    c.put_in_room.new.free
    (with_new c.args.self.now (record { index = c.args.index; generation = c.next_generation.result }) (placed c.args.place (newcomer None c.args.arity)))
settled c =
    let label = label_of c.self.inside.labels in
    slot_settled c.self.inside c.args.self.now c.self.invariant c.self.view_is _ label c.put_in_room.new.slots.items c.put_in_room.new.free
    c.settled-slot.result (placed c.args.place (newcomer None c.args.arity)) (λ k n. refl) (rw (← c.next_generation.ensures) at c.requires.next)
    (omega arith) (c.settled-slot.ensures (label c.args.index)) (c.if-not-put_in_room.ensures.slots refl) (c.if-not-put_in_room.ensures.free refl)

pub invariant_of-self-2 : goal.invariant_of-self-2
invariant_of-self-2 c = (settled c).0

pub returns-clause-some : goal.returns-clause-some
returns-clause-some c = (settled c).1
