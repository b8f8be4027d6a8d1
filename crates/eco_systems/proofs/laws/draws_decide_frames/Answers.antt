use Rattle.eco_systems.proofs.Decided.{draws_decide, one_worker_decides}
use Rattle.eco_systems.proofs.laws.draws_decide_frames.Goals as goal

pub returns : goal.returns
returns c = record { given = draws_decide; alone = one_worker_decides }
