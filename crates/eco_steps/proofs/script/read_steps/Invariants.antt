use Rattle.eco_steps.proofs.Common.{◌≡◌, ◌++◌, drop, map, option_map, view, each_in, step_in, step_view}
use Rattle.eco_steps.proofs.script.read_steps.Given as goal

-- the steps so far, and those of what is left, are all steps
abbrev pub invariant-loop-value : goal.invariant-loop-value
invariant-loop-value l =
    each_in (step_in l.edition) (map view l.values)
    ≡ option_map (λ ss. map step_view l.steps.items ++ ss) (each_in (step_in l.edition) (map view (drop l.value-index l.values)))
