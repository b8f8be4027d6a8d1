use Rattle.eco_ids.proofs.OneLayout.{one_layout}
use Rattle.eco_ids.proofs.laws.worlds_have_one_layout.Goals as goal

pub returns : goal.returns
returns c = one_layout
