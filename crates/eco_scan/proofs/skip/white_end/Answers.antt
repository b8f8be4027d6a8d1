use Rattle.eco_scan.proofs.Common.{◌≡◌, true, slice_index, rules, is_white}
use Rattle.eco_scan.proofs.Skipped.{white_more}
use Rattle.eco_scan.proofs.skip.white_end.Goals as goal

pub loop-end-preserved : goal.loop-end-preserved
loop-end-preserved c =
    let is : is_white (slice_index c.args.text.now c.loop-end.end) ≡ true = search rules in
    record {
      behind = search rules;
      within = search rules;
      reached = λ start s run. white_more c.args.text.now c.loop-end.end start s c.loop-end-test.true is (c.loop-end.invariant.reached start s run);
    }
