use Rattle.eco_systems.proofs.Frames.{nothing_done}
use Rattle.eco_systems.proofs.RunsEnd.{refused_changes_nothing}
use Rattle.eco_systems.proofs.laws.refused_changes_nothing.Goals as goal

pub returns : goal.returns
returns c = record { command = refused_changes_nothing; batch = nothing_done }
