use Rattle.eco_traits.proofs.Common.{TraitClash, true, false, Some, None, refl, sym, ◌∙◌, subst, IsFirstCycle, grown}
use Rattle.eco_traits.proofs.Verdicts.{clash_seen, judged_cycle}
use Rattle.eco_traits.proofs.verdict.verdict.Goals as goal

pub returns : goal.returns
returns g c =
    let w = g.H.Holdings.world c.args.holdings.now in
    judged_cycle w c.args.entity c.args.coming.now (grown w c.args.entity c.args.added c.args.coming.now) None false None
    (sym c.any_wrong_policy.ensures ∙ c.if-any_wrong_policy.false) (sym c.any_late.ensures ∙ c.if-any_late.false)
    (subst (IsFirstCycle w c.args.entity c.args.coming.now) c.in_default.is c.in_ok-relationship.ensures)
    (clash_seen w c.args.entity c.args.added c.args.coming.now c.requires.alive c.requires.living c.requires.closure c.requires.sound
    ∙ sym c.would_clash.ensures ∙ c.if-would_clash.false)
    refl

pub returns-then-would_clash : goal.returns-then-would_clash
returns-then-would_clash g c =
    let w = g.H.Holdings.world c.args.holdings.now in
    judged_cycle w c.args.entity c.args.coming.now (grown w c.args.entity c.args.added c.args.coming.now) None true (Some TraitClash)
    (sym c.any_wrong_policy.ensures ∙ c.if-any_wrong_policy.false) (sym c.any_late.ensures ∙ c.if-any_late.false)
    (subst (IsFirstCycle w c.args.entity c.args.coming.now) c.in_default.is c.in_ok-relationship.ensures)
    (clash_seen w c.args.entity c.args.added c.args.coming.now c.requires.alive c.requires.living c.requires.closure c.requires.sound
    ∙ sym c.would_clash.ensures ∙ c.if-would_clash.true)
    refl
