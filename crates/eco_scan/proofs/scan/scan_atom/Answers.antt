use Rattle.eco_scan.proofs.Common.{[], sym, refl, arith, rules, common_steps, point_view, marked, before_view, atom_view}
use Rattle.eco_scan.proofs.Loops.{reached_more, reached_stuck, reached_end, reached_atom}
use Rattle.eco_scan.proofs.scan.scan_atom.Goals as goal

pub loop-at-init : goal.loop-at-init
loop-at-init c = record { run = (record { slots = []; others = [] }, refl); within = search rules; begun = tt }

pub loop-at-preserved : goal.loop-at-preserved
loop-at-preserved c =
    let (d, run) = c.loop-at.invariant.run in
    let before = point_view c.args.text.now c.loop-at.at d c.loop-at.point in
    let more = reached_more _ c.args.text.now c.loop-at.at before _ c.loop-at-test.true run (c.in-Some.ensures.step d) in
    record {
      run = (marked c.in-Some.step.mark d, c.skip.ensures.reached _ (marked c.in-Some.step.mark d) more);
      within = search rules;
      begun = search rules;
    }

pub returns-in_default-clause-fault : goal.returns-in_default-clause-fault
returns-in_default-clause-fault c = grind (arith, common_steps, reached_stuck)

pub returns-in-Some-last_atom-clause-found : goal.returns-in-Some-last_atom-clause-found
returns-in-Some-last_atom-clause-found c =
    let (d, run) = c.loop-at.invariant.run in
    let h = c.in-Some-last_atom in
    reached_atom _ c.args.text.now c.loop-at.at (λ k. point_view c.args.text.now k d c.loop-at.point) (before_view d h.field-0-0 h.field-0-1)
    (atom_view h.atom)
    (omega arith) run (sym (h.ensures.end d))

pub returns-in-None-clause-fault : goal.returns-in-None-clause-fault
returns-in-None-clause-fault c =
    let (d, run) = c.loop-at.invariant.run in
    reached_end _ c.args.text.now c.loop-at.at (λ k. point_view c.args.text.now k d c.loop-at.point) (omega arith) run (sym (c.in-None.ensures.end d))
