use Rattle.eco_checker.proofs.Common.{◌∙◌, codes, place_text}
use Rattle.eco_checker.proofs.Lines.{line_text, ok_all}
use Rattle.eco_checker.proofs.report.line_of.Goals as goal

pub returns : goal.returns
returns c =
    ok_all c.format.result (λ line e. e ∙ line_text (place_text c.args.place) (codes ": ") c.args.words.now (codes "\n")) c.format.ensures.ok
