use Rattle.eco_traits.proofs.Common.{subst, sym, take_all, true≢false, refl, ◌∙◌, AreNoTraits}
use Rattle.eco_traits.proofs.Freely.{no_trait_at, no_traits_more}
use Rattle.eco_traits.proofs.brought.are_no_traits.Goals as goal

pub loop-entity-preserved : goal.loop-entity-preserved
loop-entity-preserved c =
    no_traits_more c.args.edition c.args.entities.now c.loop-entity.entity-index _ c.loop-entity-test.true c.loop-entity.invariant
    (c.is_no_trait.ensures.0 c.if-not-is_no_trait.false)

pub returns-then-not-is_no_trait : goal.returns-then-not-is_no_trait
returns-then-not-is_no_trait c = (
  λ so. absurd (true≢false (sym so)),
  λ all. absurd (true≢false (sym (c.is_no_trait.ensures.1
      (no_trait_at c.args.edition c.args.entities.now c.loop-entity.entity-index _ c.loop-entity-test.true all)) ∙ c.if-not-is_no_trait.true)),
)

pub returns : goal.returns
returns c = (
  λ _. subst (AreNoTraits c.args.edition) (take_all c.loop-entity.entity-index c.args.entities.now c.loop-entity-test.false) c.loop-entity.invariant,
  λ _. refl,
)
