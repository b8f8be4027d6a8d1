use Rattle.eco_index.proofs.Common.{◌<◌, length}
use Rattle.eco_index.proofs.id_index.IdIndex.shortest_group.Given as goal

abbrev pub invariant-loop-group : goal.invariant-loop-group
invariant-loop-group g l = l.shortest < length (g.T.TypeTest.groups l.test)
