use Rattle.eco_checker.proofs.Common.{sym, ◌∙◌}
use Rattle.eco_checker.proofs.Lines.{adds_more, adds_some, grown, on_ok, same_count}
use Rattle.eco_checker.proofs.report.Lines.push_step.Goals as goal

pub returns-then-len-before : goal.returns-then-len-before
returns-then-len-before c =
    on_ok c.push_fault.result (adds_some _ _ _ _ (adds_more _ _ _ _ c.in_ok-push_ill_formed.ensures c.in_ok-push_held.ensures)) c.push_fault.ensures

pub returns-else-len-before : goal.returns-else-len-before
returns-else-len-before c =
    grown _ _ _ (adds_more _ _ _ _ c.in_ok-push_ill_formed.ensures c.in_ok-push_held.ensures)
    (λ q. c.if-len-before.false
    (c.len.ensures ∙ c.push_held.new.self.lines.ok.0 ∙ same_count _ _ _ q ∙ sym c.args.self.now.lines.ok.0 ∙ sym c.len-before.ensures))
