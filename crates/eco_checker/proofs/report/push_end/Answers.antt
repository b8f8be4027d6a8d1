use Rattle.eco_checker.proofs.Common.{string_bytes}
use Rattle.eco_checker.proofs.Lines.{end_told, on_ok}
use Rattle.eco_checker.proofs.report.push_end.Goals as goal

pub returns : goal.returns
returns c =
    on_ok c.write.result
    (end_told (string_bytes c.args.text.now) (string_bytes c.write.new.self) c.plural-plural.result.now c.args.count c.plural-plural.ensures)
    c.write.ensures.bytes
