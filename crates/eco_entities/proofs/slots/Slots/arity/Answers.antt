use Rattle.eco_entities.proofs.Common.{◌≡◌, sym, ap, ◌∙◌, option_and_then, arity_in, living_slot}
use Rattle.eco_entities.proofs.Shown.{arity_shown}
use Rattle.eco_entities.proofs.slots.Slots.arity.Goals as goal

pub returns-in_err-living : goal.returns-in_err-living
returns-in_err-living c =
    let slots = c.self.inside.slots.items in
    let e = c.args.entity in
    let is : c.living.result ≡ living_slot slots e = rw c.as_slice.ensures.value at c.living.ensures in
    c.from_residual.ensures ∙ (ap (option_and_then arity_in) (sym c.in_err-living.was ∙ is) ∙ arity_shown c.self.inside c.args.self.now c.self.view_is e)

pub returns : goal.returns
returns c =
    let slots = c.self.inside.slots.items in
    let e = c.args.entity in
    let is : c.living.result ≡ living_slot slots e = rw c.as_slice.ensures.value at c.living.ensures in
    c.arity.ensures ∙ (ap (option_and_then arity_in) (sym c.in_ok-living.was ∙ is) ∙ arity_shown c.self.inside c.args.self.now c.self.view_is e)
