use Rattle.eco_checker.proofs.Common.{ap, ◌∙◌, ◌++◌, flat_map, string_bytes}
use Rattle.eco_checker.proofs.Lines.{on_ok, report_told}
use Rattle.eco_checker.proofs.report.push_report.Goals as goal

pub returns : goal.returns
returns c =
    on_ok c.push_end.result
    (report_told (λ s. string_bytes s) c.args.faults.now.has_head c.args.faults.now.steps.items c.in_ok-lines.lines.items c.len.result
    (string_bytes c.args.text.now) (string_bytes c.push_lines.new.text) (string_bytes c.push_end.new.text) c.in_ok-lines.ensures
    (c.len.ensures ∙ c.in_ok-lines.lines.ok.0)
    (c.in_ok-push_lines.ensures ∙ ap (λ l. string_bytes c.args.text.now ++ flat_map (λ s. string_bytes s) l) c.as_slice.ensures.value))
    c.push_end.ensures
