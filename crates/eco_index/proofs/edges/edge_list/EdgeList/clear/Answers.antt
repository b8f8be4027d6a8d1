use Rattle.eco_index.proofs.SlotEdges.{none_apart}
use Rattle.eco_index.proofs.edges.edge_list.EdgeList.clear.Goals as goal

pub invariant_of-self-in-Few : goal.invariant_of-self-in-Few
invariant_of-self-in-Few c = none_apart c.clear.new.self.items c.clear.ensures.items
