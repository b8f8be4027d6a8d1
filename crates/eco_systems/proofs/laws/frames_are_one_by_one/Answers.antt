use Rattle.eco_systems.proofs.Frames.{frame_is_solo, part_is_solo}
use Rattle.eco_systems.proofs.laws.frames_are_one_by_one.Goals as goal

pub returns : goal.returns
returns c = record { whole = frame_is_solo; stopped = part_is_solo }
