use Rattle.eco_systems.proofs.EntriesRead.{entries_read}
use Rattle.eco_systems.proofs.laws.entries_are_read.Goals as goal

pub returns : goal.returns
returns c = entries_read
