use Rattle.eco_script.proofs.Common.{arith, ◌∙◌, ap, sym, length, subst, string_bytes, ◌≡◌, ◌+◌, ◌++◌, take_all, joined, command_lines}
use Rattle.eco_script.proofs.Commands.{count_more, count_within, lines_more}
use Rattle.eco_script.proofs.reply.push_frame_lines.Goals as goal

pub push_command_lines-requires : goal.push_command_lines-requires
push_command_lines-requires c =
    omega (arith, count_within c.args.reports.now c.loop-report.report-index c.report-item.result c.loop-report-test.true c.report-item.is)

pub loop-report-preserved : goal.loop-report-preserved
loop-report-preserved c = record {
  lines = lines_more c.args.reports.now c.loop-report.report-index c.report-item.result c.loop-report-test.true c.report-item.is
      (string_bytes c.args.text.now) _ _ c.loop-report.number c.loop-report.invariant.count c.loop-report.invariant.lines c.in_ok-number.ensures.lines;
  count = c.in_ok-number.ensures.next ∙ ap (λ n. n + length c.report-item.result) c.loop-report.invariant.count
      ∙ sym (count_more c.args.reports.now c.loop-report.report-index c.report-item.result c.loop-report-test.true c.report-item.is);
}

pub returns : goal.returns
returns c =
    subst (λ rs. string_bytes c.loop-report.text ≡ string_bytes c.args.text.now ++ command_lines 0 (joined rs))
    (take_all c.loop-report.report-index c.args.reports.now c.loop-report-test.false) c.loop-report.invariant.lines
