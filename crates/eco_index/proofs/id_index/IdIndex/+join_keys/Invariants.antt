use Rattle.eco_index.proofs.Common.{length}
use Rattle.eco_index.proofs.id_index.IdIndex.+join_keys.Given as goal

abbrev pub decreases-join_keys : goal.decreases-join_keys
decreases-join_keys l = length l.keys.now
