use Rattle.eco_systems.proofs.BatchesExist.{batches_of}
use Rattle.eco_systems.proofs.JoinedOneByOne.{joining_makes_batches}
use Rattle.eco_systems.proofs.OneCut.{batches_unique}
use Rattle.eco_systems.proofs.laws.batches_are_unique.Goals as goal

pub returns : goal.returns
returns c = record { exist = λ w systems l. batches_of w l systems; unique = batches_unique; joining = joining_makes_batches }
