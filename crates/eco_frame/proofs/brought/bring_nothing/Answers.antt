use Rattle.eco_frame.proofs.BatchesCommon.{subst, sym, refl, true≢false, ◌∙◌, AllByRecursion, BringsNothing, take_all, take_more, all_append}
use Rattle.eco_frame.proofs.Brings.{brings_by, nothing_by}
use Rattle.eco_frame.proofs.Members.{all_at}
use Rattle.eco_frame.proofs.brought.bring_nothing.Goals as goal

pub loop-pattern-preserved : goal.loop-pattern-preserved
loop-pattern-preserved g c =
    let w = g.H.Holdings.world c.args.holdings.now in
    subst (AllByRecursion (BringsNothing w)) (sym (take_more c.args.patterns.now c.loop-pattern.pattern-index _ c.loop-pattern-test.true))
    (all_append (BringsNothing w) _ _ c.loop-pattern.invariant
    (nothing_by w _ c.ids_of_head.result.now (sym c.any_with.ensures ∙ c.if-any_with.false) c.ids_of_head.ensures, tt))

pub returns-then-any_with : goal.returns-then-any_with
returns-then-any_with g c = (
  λ t. absurd (true≢false (sym t)),
  λ none. let w = g.H.Holdings.world c.args.holdings.now in
      absurd (brings_by w _ c.ids_of_head.result.now (sym c.any_with.ensures ∙ c.if-any_with.true) c.ids_of_head.ensures
      (all_at (BringsNothing w) c.args.patterns.now c.loop-pattern.pattern-index _ c.loop-pattern-test.true none)),
)

pub returns : goal.returns
returns g c = (
  λ t.
      subst (AllByRecursion (BringsNothing (g.H.Holdings.world c.args.holdings.now)))
      (take_all c.loop-pattern.pattern-index c.args.patterns.now c.loop-pattern-test.false) c.loop-pattern.invariant,
  λ none. refl,
)
