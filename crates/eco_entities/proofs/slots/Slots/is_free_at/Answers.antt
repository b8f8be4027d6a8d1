use Rattle.eco_entities.proofs.Common.{common_steps, ◌==◌, sym, ap, ◌∙◌, arith, is_free_in, label_of}
use Rattle.eco_entities.proofs.Shown.{free_shown, state_shown, used_shown}
use Rattle.eco_entities.proofs.slots.Slots.is_free_at.Goals as goal

pub returns-then-is_free : goal.returns-then-is_free
returns-then-is_free c =
    let e = c.args.entity in
    let is = rw c.as_slice.ensures.value at c.slot_at.ensures in
    ap (λ g. g == e.generation) c.generation.ensures
    ∙ sym (ap (λ o. is_free_in o e.generation)
    (free_shown c.self.inside c.args.self.now c.self.view_is e.index c.in-Some.slot (sym c.in-Some.is ∙ is)
    (sym (c.if-is_free.ensures (label_of c.self.inside.labels e.index)))))

pub returns-else-is_free : goal.returns-else-is_free
returns-else-is_free c =
    let e = c.args.entity in
    let is = rw c.as_slice.ensures.value at c.slot_at.ensures in
    c.if-is_free.false
    ∙ sym (used_shown c.self.inside c.args.self.now c.self.view_is e.index c.in-Some.slot e.generation (sym c.in-Some.is ∙ is)
    (sym (c.if-is_free.ensures (label_of c.self.inside.labels e.index))))

pub returns-in-None : goal.returns-in-None
returns-in-None c = grind (arith, common_steps, state_shown)
