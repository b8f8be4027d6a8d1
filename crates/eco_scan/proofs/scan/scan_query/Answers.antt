use Rattle.eco_scan.proofs.Common.{false, sym, refl, arith, rules, query_start, point_view, marked, is_bare}
use Rattle.eco_scan.specs.declared.point.Mark.TheVariants.{Slot}
use Rattle.eco_scan.proofs.Loops.{reached_more, reached_stuck, reached_end, reached_all}
use Rattle.eco_scan.proofs.Stored.{nothing_read, put_holds, held_slots, HoldsDraft}
use Rattle.eco_scan.proofs.Spelled.{query_ended, query_fault}
use Rattle.eco_scan.proofs.scan.scan_query.Goals as goal

pub loop-at-init : goal.loop-at-init
loop-at-init c =
    let holds : HoldsDraft c.new-terms.result nothing_read = rw c.new-terms.ensures (refl, refl, refl, omega arith) in
    record { run = (nothing_read, refl, holds, λ e. refl); within = search rules; begun = tt }

pub loop-at-preserved : goal.loop-at-preserved
loop-at-preserved c =
    let (d, run, holds, empty) = c.loop-at.invariant.run in
    let (held, bare) = put_holds c.loop-at.terms d c.in-Some.step.mark (is_bare c.loop-at.point) (is_bare c.in-Some.step.point) holds empty
    c.in-Some.ensures.slots in
    let before = point_view c.args.text.now c.loop-at.at d c.loop-at.point in
    let more = reached_more query_start c.args.text.now c.loop-at.at before _ c.loop-at-test.true run (c.in-Some.ensures.step d) in
    record {
      run = (
        marked c.in-Some.step.mark d,
        c.skip.ensures.reached query_start (marked c.in-Some.step.mark d) more,
        rw c.put.ensures held,
        rw c.skip.ensures.slots bare,
      );
      within = search rules;
      begun = search rules;
    }

pub returns-in_default-last_atom-clause-fault : goal.returns-in_default-last_atom-clause-fault
returns-in_default-last_atom-clause-fault c =
    let (d, run, holds, empty) = c.loop-at.invariant.run in
    query_fault c.args.text.now _
    (reached_end query_start c.args.text.now c.loop-at.at (λ k. point_view c.args.text.now k d c.loop-at.point) (omega arith) run
    (sym (c.in_default-last_atom.ensures.end d)))

pub returns-in_default-clause-fault : goal.returns-in_default-clause-fault
returns-in_default-clause-fault c =
    let (d, run, holds, empty) = c.loop-at.invariant.run in
    query_fault c.args.text.now _
    (reached_stuck query_start c.args.text.now c.loop-at.at (point_view c.args.text.now c.loop-at.at d c.loop-at.point) c.loop-at-test.true run
    (c.in_default.ensures.step d))

pub returns-clause-found : goal.returns-clause-found
returns-clause-found c =
    let (d, run, holds, empty) = c.loop-at.invariant.run in
    let h = c.in-Some-last_atom in
    let (held, bare) = put_holds c.loop-at.terms d (Slot h.access h.head h.atom) (is_bare c.loop-at.point) false holds empty h.ensures.slots in
    let read = reached_all query_start c.args.text.now c.loop-at.at (λ k. point_view c.args.text.now k d c.loop-at.point) (omega arith) run in (
      (marked (Slot h.access h.head h.atom) d).slots,
      query_ended c.args.text.now _ _ read (sym (h.ensures.end d)),
      rw c.put-2.ensures
          (held_slots _ _ held refl),
    )
