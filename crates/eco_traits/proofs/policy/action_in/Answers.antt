use Rattle.eco_traits.proofs.CleanupCommon.{Bool, if◌then◌else◌, sym, ap, ◌∙◌, DELETE, PANIC, REMOVE, Two, has_item, id_cmp}
use Rattle.eco_traits.proofs.policy.action_in.Goals as goal

pub returns-then-has : goal.returns-then-has
returns-then-has c =
    let panics : Bool = has_item id_cmp c.args.ids.now (Two c.args.condition PANIC) in
    sym (ap (λ b. if b then DELETE else if panics then PANIC else REMOVE) (sym c.has.ensures.is ∙ c.if-has.true))

pub returns-then-has-2 : goal.returns-then-has-2
returns-then-has-2 c =
    sym (λ t. if (sym c.has.ensures.is ∙ c.if-has.false) t then DELETE else if (sym c.has-else-has.ensures.is ∙ c.if-has-2.true) t then PANIC else REMOVE)

pub returns-else-has-2 : goal.returns-else-has-2
returns-else-has-2 c =
    sym (λ t. if (sym c.has.ensures.is ∙ c.if-has.false) t then DELETE else if (sym c.has-else-has.ensures.is ∙ c.if-has-2.false) t then PANIC else REMOVE)
