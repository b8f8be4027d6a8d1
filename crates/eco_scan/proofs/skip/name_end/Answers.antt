use Rattle.eco_scan.proofs.Common.{◌≡◌, true, slice_index, arith, rules, may_follow}
use Rattle.eco_scan.proofs.Skipped.{name_more}
use Rattle.eco_scan.proofs.skip.name_end.Goals as goal

pub loop-end-preserved : goal.loop-end-preserved
loop-end-preserved c =
    let is : may_follow (slice_index c.args.text.now c.loop-end.end) ≡ true = search rules in
    record {
      behind = search rules;
      within = search rules;
      reached = λ start o run. name_more c.args.text.now c.loop-end.end start o c.args.from (omega arith) c.loop-end-test.true is
          c.if-end-from-lt63.true (c.loop-end.invariant.reached start o run);
    }
