use Rattle.eco_shared.proofs.Keeps.{begins}
use Rattle.eco_shared.proofs.opening.open_writer.Goals as goal

pub new-requires-clause-rule : goal.new-requires-clause-rule
new-requires-clause-rule g c = begins c.in_ok-first.first
