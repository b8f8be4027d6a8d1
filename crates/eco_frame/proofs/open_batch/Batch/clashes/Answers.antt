use Rattle.eco_frame.proofs.BatchesCommon.{◌∙◌, option_copied}
use Rattle.eco_frame.proofs.Joins.{apart_found}
use Rattle.eco_frame.proofs.open_batch.Batch.clashes.Goals as goal

pub returns : goal.returns
returns c = λ os h. c.has_clash.ensures ∙ apart_found os c.args.self.now h (option_copied c.args.later) c.args.late
