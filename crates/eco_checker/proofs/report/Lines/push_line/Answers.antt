use Rattle.eco_checker.proofs.Common.{string_bytes}
use Rattle.eco_checker.proofs.Lines.{line_added, on_ok}
use Rattle.eco_checker.proofs.report.Lines.push_line.Goals as goal

pub returns : goal.returns
returns c =
    on_ok c.push_to.result (line_added c.args.place c.args.words.now (string_bytes c.in_ok-line.line) _ _ c.in_ok-line.ensures) c.push_to.ensures
