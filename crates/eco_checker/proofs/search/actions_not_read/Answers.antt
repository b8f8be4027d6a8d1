use Rattle.eco_checker.proofs.Common.{arith, ◌∙◌, ap, ◌++◌, map, take_all, view, action_in, action_view, numbers_without, unless_read}
use Rattle.eco_checker.proofs.Numbers.{one_more}
use Rattle.eco_checker.proofs.search.actions_not_read.Goals as goal

pub loop-number-preserved : goal.loop-number-preserved
loop-number-preserved c =
    let at = c.loop-number in
    let added = c.in_ok-push_unless_read.ensures ∙ ap (λ b. at.numbers.items ++ unless_read b at.number) c.is_some-is_read.ensures in
    one_more (action_in c.args.edition) view action_view c.args.values.now at.number c.index-values-number.result c.read.result (omega arith)
    c.index-values-number.is c.read.ensures at.invariant added

pub returns : goal.returns
returns c =
    c.loop-number.invariant
    ∙ ap (λ vs. numbers_without (action_in c.args.edition) 0 (map view vs)) (take_all c.loop-number.number c.args.values.now c.loop-number-test.false)
