use Rattle.eco_scan.proofs.Common.{◌∙◌}
use Rattle.eco_scan.proofs.Fronts.{starts_prefix}
use Rattle.eco_scan.proofs.inside.begins.Goals as goal

pub returns : goal.returns
returns c = c.starts_with.ensures.value ∙ starts_prefix c.args.whole.now c.args.word.now
