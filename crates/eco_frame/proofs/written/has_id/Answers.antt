use Rattle.eco_frame.proofs.BatchesCommon.{◌∙◌}
use Rattle.eco_frame.proofs.Keyed.{id_found}
use Rattle.eco_frame.proofs.written.has_id.Goals as goal

pub returns : goal.returns
returns c = c.contains.ensures ∙ id_found c.args.noted.now.keys c.args.id
