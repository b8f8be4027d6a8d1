use Rattle.eco_systems.proofs.Left.{stopped_have_more}
use Rattle.eco_systems.proofs.laws.stopped_frames_have_batches_left.Goals as goal

pub returns : goal.returns
returns c = stopped_have_more
