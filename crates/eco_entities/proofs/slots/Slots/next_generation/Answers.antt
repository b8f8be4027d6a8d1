use Rattle.eco_entities.proofs.Common.{common_steps, sym, ap, ◌∙◌, arith, label_of, next_generation}
use Rattle.eco_entities.proofs.Shown.{free_shown, state_shown, used_shows_none}
use Rattle.eco_entities.proofs.slots.Slots.next_generation.Goals as goal

pub returns-in-Some : goal.returns-in-Some
returns-in-Some c =
    let is = rw c.as_slice.ensures.value at c.slot_at.ensures in
    c.generation.ensures
    ∙ sym (ap next_generation
    (free_shown c.self.inside c.args.self.now c.self.view_is c.args.index c.in-Some.slot (sym c.in-Some.is ∙ is)
    (sym (c.if-is_free.ensures (label_of c.self.inside.labels c.args.index)))))

pub returns-in_default : goal.returns-in_default
returns-in_default c =
    let is = rw c.as_slice.ensures.value at c.slot_at.ensures in
    sym (used_shows_none c.self.inside c.args.self.now c.self.view_is c.args.index c.in-Some.slot (sym c.in-Some.is ∙ is)
    (sym (c.if-is_free.ensures (label_of c.self.inside.labels c.args.index))))

pub returns-in_default-2 : goal.returns-in_default-2
returns-in_default-2 c = grind (arith, common_steps, state_shown)
