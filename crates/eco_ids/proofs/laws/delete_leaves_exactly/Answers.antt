use Rattle.eco_ids.proofs.Leaves.{deletes_one_leaves, deletes_with_leaves}
use Rattle.eco_ids.proofs.laws.delete_leaves_exactly.Goals as goal

pub returns : goal.returns
returns c = record { one = deletes_one_leaves; all_with = deletes_with_leaves }
