use Rattle.eco_checker.proofs.Common.{◌∙◌, ap, sym, map, view, step_in, edition_in, numbers_without}
use Rattle.eco_checker.proofs.Scripts.{none_of_script, script_without}
use Rattle.eco_checker.proofs.faults.Faults.find.Goals as goal

pub returns-clause-steps : goal.returns-clause-steps
returns-clause-steps c =
    c.in_ok-steps.ensures ∙ ap (λ e. numbers_without (step_in e) 0 (map view c.step_items-items.result.now)) c.steps_edition-edition.ensures
    ∙ ap (numbers_without (step_in (edition_in (view c.args.value.now))) 0) c.step_items-items.ensures

pub returns-clause-script : goal.returns-clause-script
returns-clause-script c = λ (head, none).
    script_without c.values_are_found.ensures.scripts (view c.args.value.now) (sym c.has_parts-has_head.ensures ∙ head) (sym (returns-clause-steps c) ∙ none)

pub returns-clause-none : goal.returns-clause-none
returns-clause-none c = λ s is.
    let (parts, none) = none_of_script c.values_are_found.ensures.scripts (view c.args.value.now) s is in
    (c.has_parts-has_head.ensures ∙ parts, returns-clause-steps c ∙ none)
