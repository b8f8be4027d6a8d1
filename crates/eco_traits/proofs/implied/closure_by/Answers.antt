use Rattle.eco_traits.proofs.Common.{IfOk, Ok, Err, Result, sym, ◌∙◌, true≢false}
use Rattle.eco_traits.proofs.Flat.{flat_closure, none_with}
use Rattle.eco_traits.proofs.implied.closure_by.Goals as goal

-- what an answer has by two clauses
made_of : {X E : Type 0} {P Q R : X → Type 0} (r : Result X E) → ((x : X) → P x → Q x → R x) → IfOk r P → IfOk r Q → IfOk r R
made_of (Ok x) f p q = f x p q
made_of (Err e) f p q = tt

pub returns-clause-exact : goal.returns-clause-exact
returns-clause-exact g c =
    made_of c.with_targets.result
    (λ s given up. flat_closure (g.H.Holdings.world c.args.holdings.now) c.args.id c.args.traits.now c.requires
    (c.bring_more.ensures.exact.0 c.if-bring_more.false) s given up)
    c.with_targets.ensures.members c.with_targets.ensures.ascending

pub returns-clause-alone : goal.returns-clause-alone
returns-clause-alone g c = λ none.
    c.with_targets.ensures.alone (none_with (g.H.Holdings.world c.args.holdings.now) c.args.id c.args.traits.now c.requires none)

pub returns-then-bring_more-clause-alone : goal.returns-then-bring_more-clause-alone
returns-then-bring_more-clause-alone g c = λ none.
    absurd (true≢false (sym (c.bring_more.ensures.some c.if-bring_more.true)
    ∙ none_with (g.H.Holdings.world c.args.holdings.now) c.args.id c.args.traits.now c.requires none))
