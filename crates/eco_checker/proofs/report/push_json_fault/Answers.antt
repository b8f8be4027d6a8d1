use Rattle.eco_checker.proofs.Common.{refl, unread_text}
use Rattle.eco_checker.proofs.Lines.{on_ok}
use Rattle.eco_checker.proofs.report.push_json_fault.Goals as goal

pub returns : goal.returns
returns c =
    let line = c.line-line.result in
    let column = c.column-column.result in
    let why = c.map_or-why.result.now in
    on_ok c.push_unread.result (λ e. (unread_text line column why, (line, column, why, refl), e)) c.push_unread.ensures
