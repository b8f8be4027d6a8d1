use Rattle.eco_shared.proofs.OneEnd.{merges_alike}
use Rattle.eco_shared.proofs.laws.merges_have_one_end.Goals as goal

pub returns : goal.returns
returns c = merges_alike
