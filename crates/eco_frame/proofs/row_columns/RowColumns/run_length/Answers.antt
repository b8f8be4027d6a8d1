use Rattle.eco_frame.proofs.Common.{◌≤◌, arith, drop, length, length-drop, refl}
use Rattle.eco_frame.proofs.Runs.{run_more}
use Rattle.eco_frame.proofs.row_columns.RowColumns.run_length.Goals as goal

pub loop-count-preserved : goal.loop-count-preserved
loop-count-preserved c =
    let s = c.args.self.now in
    let test = c.loop-count-test.true in
    let few = c.min-most.ensures in
    let left = length-drop s.row s.entities.now in
    let rest = c.saturating_sub.ensures in
    let within : c.loop-count.count ≤ length (drop s.row s.entities.now) = omega (arith, test, few, left, rest) in
    record {
      few = omega (arith, test);
      are = run_more s.entries.now s.columns.items s.row c.args.place c.loop-count.count s.entities.now s.rows.now c.entity.result within
          (c.if-show.ensures.stands refl) (c.if-show.ensures.shows refl) c.loop-count.invariant.are;
    }

pub returns-else-show-clause-within : goal.returns-else-show-clause-within
returns-else-show-clause-within c =
    let s = c.args.self.now in
    let few = c.min-most.ensures in
    let left = length-drop s.row s.entities.now in
    let rest = c.saturating_sub.ensures in
    let least = c.loop-count.invariant.few in
    omega (arith, least, few, left, rest)

pub returns-after-loop-count-clause-within : goal.returns-after-loop-count-clause-within
returns-after-loop-count-clause-within c =
    let s = c.args.self.now in
    let few = c.min-most.ensures in
    let left = length-drop s.row s.entities.now in
    let rest = c.saturating_sub.ensures in
    let least = c.loop-count.invariant.few in
    omega (arith, least, few, left, rest)
