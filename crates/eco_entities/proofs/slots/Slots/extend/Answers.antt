use Rattle.eco_entities.proofs.Common.{common_steps, ◌≡◌, ◌++◌, ap, ◌∙◌, length, replicate, arith, admitted, label_of}
use Rattle.eco_entities.proofs.Marks.{ShowsMarked, marks_as_slots, room_inside, slots_admitted}
use Rattle.std.proofs.lemmas.List.{length-append, length-replicate}
use Rattle.eco_entities.proofs.slots.Slots.extend.Goals.{After-push_copies}
use Rattle.eco_entities.proofs.slots.Slots.extend.Goals as goal

-- the free indices are there, and marked
admitted_there : (c : goal.After-push_copies) → ShowsMarked c.self.inside.limit (label_of c.self.inside.labels) c.push_copies.new.slots.items
    c.insert_from.new.self (admitted c.args.count c.args.self.now)
admitted_there c =
    let known : c.len-known.result ≡ length c.self.inside.slots.items = omega arith in
    slots_admitted c.self.inside c.args.self.now c.self.invariant c.self.view_is _ _ _ c.args.count c.free.result
    (room_inside c.self.inside c.args.self.now c.self.invariant c.self.view_is c.args.count c.requires)
    (c.push_copies.ensures ∙ ap (λ xs. xs ++ replicate c.args.count c.free.result) c.in_ok-reserve.ensures.items) c.free.ensures
    c.in_ok-grow.ensures.ok (rw known at c.insert_from.ensures)

pub invariant_of-self-2 : goal.invariant_of-self-2
invariant_of-self-2 c = (admitted_there (goal.at.invariant_of-self-2 c).After-push_copies).0

pub returns-clause-ok : goal.returns-clause-ok
returns-clause-ok c = (admitted_there (goal.at.returns-clause-ok c).After-push_copies).1

pub insert_from-requires : goal.insert_from-requires
insert_from-requires c = grind (arith, common_steps, marks_as_slots, length-append, length-replicate)
