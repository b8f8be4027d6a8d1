use Rattle.eco_traits.proofs.Common.{sym, ap, ◌∙◌, subst, IsClosure, Judges, grown, extended_by}
use Rattle.eco_traits.proofs.Verdicts.{judged_leads, judged_refuses}
use Rattle.eco_traits.proofs.target.judged_type.Goals as goal

pub returns : goal.returns
returns g c =
    let w = g.H.Holdings.world c.args.holdings.now in
    let same = sym c.as_slice-2.ensures.ids in
    judged_leads w c.args.entity c.args.added c.as_slice-2.result.now c.args.own.now c.in_ok-extended.field-0
    c.in_ok-refusal.field-0 c.requires.lives c.requires.absent (subst (IsClosure w c.args.added) same c.in_ok-coming.ensures.exact) c.in_ok-refusal.ensures
    c.in_default.is c.requires.own
    c.extended.ensures.ascending (c.in_ok-extended.ensures.ids ∙ ap (λ s. extended_by w s c.args.own.now) same)

pub returns-in-Some : goal.returns-in-Some
returns-in-Some g c =
    let w = g.H.Holdings.world c.args.holdings.now in
    judged_refuses w c.args.entity c.args.added c.as_slice-2.result.now c.in-Some.refusal c.requires.lives c.requires.absent
    (subst (IsClosure w c.args.added) (sym c.as_slice-2.ensures.ids) c.in_ok-coming.ensures.exact)
    (subst (Judges w c.args.entity c.as_slice-2.result.now (grown w c.args.entity c.args.added c.as_slice-2.result.now)) c.in-Some.is c.in_ok-refusal.ensures)
