use Rattle.eco_entities.proofs.Common.{◌≡◌, Some, None, sym, ap, ◌∙◌, slice_get, label_of, need_in}
use Rattle.eco_entities.proofs.Shown.{state_shown}
use Rattle.eco_entities.proofs.slots.Slots.need.Goals as goal

pub returns-in-Some : goal.returns-in-Some
returns-in-Some c =
    let e = c.args.entity in
    let is : c.slot_at.result ≡ slice_get c.self.inside.slots.items e.index = rw c.as_slice.ensures.value at c.slot_at.ensures in
    c.need.ensures (label_of c.self.inside.labels e.index)
    ∙ sym (ap (λ o. need_in o e.generation) (state_shown c.self.inside c.args.self.now c.self.view_is e.index (Some c.in-Some.slot) (sym c.in-Some.is
    ∙ is)))

pub returns-in-None : goal.returns-in-None
returns-in-None c =
    let e = c.args.entity in
    let is : c.slot_at.result ≡ slice_get c.self.inside.slots.items e.index = rw c.as_slice.ensures.value at c.slot_at.ensures in
    sym (ap (λ o. need_in o e.generation) (state_shown c.self.inside c.args.self.now c.self.view_is e.index None (sym c.in-None.is ∙ is)))
