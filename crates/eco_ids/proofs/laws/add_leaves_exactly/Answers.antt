use Rattle.eco_ids.proofs.Leaves.{adds_leave}
use Rattle.eco_ids.proofs.laws.add_leaves_exactly.Goals as goal

pub returns : goal.returns
returns c = adds_leave
