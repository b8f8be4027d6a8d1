use Rattle.eco_bodies.proofs.change.record_action.Goals as goal

pub returns-in-Spawn-clause-err : goal.returns-in-Spawn-clause-err
returns-in-Spawn-clause-err g c = rw c.in-Spawn.is c.spawn.ensures.err
