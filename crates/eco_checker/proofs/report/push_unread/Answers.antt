use Rattle.eco_checker.proofs.Common.{string_bytes}
use Rattle.eco_checker.proofs.Lines.{on_ok, unread_told}
use Rattle.eco_checker.proofs.report.push_unread.Goals as goal

pub returns : goal.returns
returns c =
    on_ok c.write.result
    (unread_told (string_bytes c.args.text.now) (string_bytes c.write.new.self) c.args.why.now c.args.line c.args.column)
    c.write.ensures.bytes
