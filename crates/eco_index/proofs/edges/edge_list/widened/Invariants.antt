use Rattle.eco_index.proofs.Common.{◌≡◌, take}
use Rattle.eco_index.proofs.edges.edge_list.widened.Given as goal

abbrev pub invariant-loop-own : goal.invariant-loop-own
invariant-loop-own l = l.many.entries ≡ take l.own-index l.few
