use Rattle.eco_tables.proofs.Common.{◌≡◌, ◌≤◌, ◌∙◌, IsTrue, All-push, ap, arith, length, padded, subst, sym, take, take_more}
use Rattle.eco_ids.specs.Data.{is_zero_past}
use Rattle.eco_tables.proofs.Runs.{run_more}
use Rattle.eco_tables.proofs.table.runs.count_rows.Goals as goal

pub loop-count-preserved : goal.loop-count-preserved
loop-count-preserved g c =
    let k = c.loop-count.count in
    let test = c.loop-count-test.true in
    let own = c.loop-count.invariant in
    let there = c.index-sets-count.is in
    record {
      run = run_more c.args.entities.now c.args.arity c.args.least c.args.sets.now k _ c.index-sets-count.result (omega (arith, test, own.sets))
          (omega (arith, test, own.rows)) (c.is.ensures.exact.0 c.if-not-is.false ∙ ap (λ s. s.0) there)
          (subst (λ s. c.args.least ≤ s.0.index) there c.if-set-least.false)
          (subst (λ s. IsTrue (is_zero_past c.args.arity (padded s.1))) there (sym c.has_few.ensures.told ∙ c.if-not-has_few.false)) own.run;
      few = omega (arith, test);
      rows = own.rows;
      sets = own.sets;
      long = rw (take_more c.args.sets.now k c.index-sets-count.result (omega (arith, test, own.sets)))
          (All-push (λ s. length s.1 ≡ g.row.N) (take k c.args.sets.now) _ own.long
          (subst (λ s. length s.1 ≡ g.row.N) there c.has_few.ensures.long));
    }
