use Rattle.eco_frame.proofs.Common.{◌-◌, ◌<◌, ◌≤◌, ap, arith, drop, subst, sym, take, ◌∙◌}
use Rattle.eco_frame.specs.Rows.{lent_rows_from}
use Rattle.eco_frame.proofs.Runs.{rows_count, run_bounds, run_lent}
use Rattle.eco_frame.proofs.row_columns.RowColumns.run.Goals as goal

pub returns-clause-some : goal.returns-clause-some
returns-clause-some c =
    let s = c.args.self.now in
    let places = c.requires.places.0 in
    subst (λ n. 0 < n) (sym (rows_count s.entries.now c.deref.result.now s.row c.entities_of.result.now))
    (run_bounds s.entries.now s.columns.items s.row s.entities.now c.entities_of.result.now s.entity c.run_length-count.result
    (c.args.end - c.args.place) c.run_length-count.ensures.within c.run_length-count.ensures.few (omega (arith, places)) c.entities_of.ensures.none
    c.entities_of.ensures.some).0

pub returns-clause-few : goal.returns-clause-few
returns-clause-few c =
    let s = c.args.self.now in
    let places = c.requires.places.0 in
    subst (λ n. n ≤ c.args.end - c.args.place) (sym (rows_count s.entries.now c.deref.result.now s.row c.entities_of.result.now))
    (run_bounds s.entries.now s.columns.items s.row s.entities.now c.entities_of.result.now s.entity c.run_length-count.result
    (c.args.end - c.args.place) c.run_length-count.ensures.within c.run_length-count.ensures.few (omega (arith, places)) c.entities_of.ensures.none
    c.entities_of.ensures.some).1

pub returns-clause-are : goal.returns-clause-are
returns-clause-are c =
    let s = c.args.self.now in
    ap (λ cs. lent_rows_from s.entries.now cs s.row c.entities_of.result.now) c.deref.ensures.value
    ∙ run_lent s.entries.now s.columns.items s.row s.entities.now c.entities_of.result.now s.entity c.run_length-count.result
    c.run_length-count.ensures.within c.entities_of.ensures.none c.entities_of.ensures.some c.args.place s.rows.now c.requires.at
    c.run_length-count.ensures.are
    ∙ ap (λ k. take k (drop c.args.place s.rows.now)) (sym (rows_count s.entries.now c.deref.result.now s.row c.entities_of.result.now))
