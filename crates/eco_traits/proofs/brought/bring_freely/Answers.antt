use Rattle.eco_traits.proofs.Common.{subst, sym, take_all, true≢false, refl, ◌∙◌, BringFreely}
use Rattle.eco_traits.proofs.Freely.{frees_more, frees_each}
use Rattle.eco_traits.proofs.brought.bring_freely.Goals as goal

pub loop-id-preserved : goal.loop-id-preserved
loop-id-preserved g c =
    frees_more (g.H.Holdings.world c.args.holdings.now) c.args.ids.now c.loop-id.id-index _ c.loop-id-test.true c.loop-id.invariant
    (c.brings_freely.ensures.0 c.if-not-brings_freely.false)

pub returns-then-not-brings_freely : goal.returns-then-not-brings_freely
returns-then-not-brings_freely g c = (
  λ so. absurd (true≢false (sym so)),
  λ free. absurd (true≢false (sym (c.brings_freely.ensures.1
      (frees_each (g.H.Holdings.world c.args.holdings.now) c.args.ids.now c.loop-id.id-index _ c.loop-id-test.true free)) ∙ c.if-not-brings_freely.true)),
)

pub returns : goal.returns
returns g c = (
  λ _.
      subst (BringFreely (g.H.Holdings.world c.args.holdings.now)) (take_all c.loop-id.id-index c.args.ids.now c.loop-id-test.false) c.loop-id.invariant,
  λ _. refl,
)
