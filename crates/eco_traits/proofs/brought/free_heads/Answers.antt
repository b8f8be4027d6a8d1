use Rattle.eco_traits.proofs.Common.{subst, sym, inr, true≢false, ◌∙◌, AreNoTraits}
use Rattle.eco_traits.proofs.Freely.{brings_trait}
use Rattle.eco_traits.proofs.brought.free_heads.Goals as goal

pub returns-then-not-are_no_traits-clause-none : goal.returns-then-not-are_no_traits-clause-none
returns-then-not-are_no_traits-clause-none g c =
    let w = g.H.Holdings.world c.args.holdings.now in
    inr
    (brings_trait w c.args.single c.in_ok-heads.heads c.in_ok-heads.ensures.all
    (λ all. true≢false (sym (c.are_no_traits.ensures.1
    (subst (λ d. AreNoTraits d c.as_slice.result.now) (sym c.edition.ensures) (subst (AreNoTraits w.edition) (sym c.as_slice.ensures) all)))
    ∙ c.if-not-are_no_traits.true)))
