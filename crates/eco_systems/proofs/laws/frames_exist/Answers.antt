use Rattle.eco_systems.proofs.Frames.{frames_lawful}
use Rattle.eco_systems.proofs.FramesExist.{frames_exist}
use Rattle.eco_systems.proofs.laws.frames_exist.Goals as goal

pub returns : goal.returns
returns c = record { exist = frames_exist; lawful = frames_lawful }
