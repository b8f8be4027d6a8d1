use Rattle.std.proofs.Common.{◌≡◌, take}
use Rattle.indexmap.specs.IndexSet.{insert_all}
use Rattle.eco_search.proofs.least.note_all.Given as goal

abbrev pub invariant-loop-node : goal.invariant-loop-node
invariant-loop-node g l = l.members.keys ≡ insert_all g.N.PartialEq.eq l.initial.members.keys (take l.node-index l.nodes)
