use Rattle.eco_steps.proofs.Common.{rules, ◌≡◌, ◌++◌, ◌∷◌, [], ◌∙◌, ap, map, arith, map-append, view, step_in, step_view}
use Rattle.eco_steps.proofs.Values.{one_more, none_more}
use Rattle.eco_steps.proofs.script.read_steps.Goals as goal

pub loop-value-preserved : goal.loop-value-preserved
loop-value-preserved c =
    let pushed : c.push.new.self.items ≡ c.loop-value.steps.items ++ c.in-Some.step ∷ [] = search rules in
    let old = c.loop-value.steps.items in
    one_more view (step_in c.args.edition) c.args.values.now c.loop-value.value-index _ (map step_view old) (map step_view c.push.new.self.items)
    (step_view c.in-Some.step) (omega arith) (c.in-Some.ensures ∙ ap (λ v. step_in c.args.edition (view v)) c.value-item.is)
    (ap (map step_view) pushed ∙ map-append step_view old (c.in-Some.step ∷ [])) c.loop-value.invariant

pub returns-in_default-clause-not_a_script : goal.returns-in_default-clause-not_a_script
returns-in_default-clause-not_a_script c = λ _.
    none_more view (step_in c.args.edition) c.args.values.now c.loop-value.value-index _ (map step_view c.loop-value.steps.items) (omega arith)
    (c.in_default.ensures ∙ ap (λ v. step_in c.args.edition (view v)) c.value-item.is) c.loop-value.invariant
