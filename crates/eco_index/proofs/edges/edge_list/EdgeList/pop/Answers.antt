use Rattle.eco_index.proofs.Common.{subst}
use Rattle.eco_index.specs.EdgeList.{HasEachIdOnce}
use Rattle.eco_index.proofs.SlotEdges.{left_apart, last_alone}
use Rattle.eco_index.proofs.edges.edge_list.EdgeList.pop.Goals as goal

pub invariant_of-self-in-Few : goal.invariant_of-self-in-Few
invariant_of-self-in-Few c =
    left_apart c.in-Few.few.items c.pop.new.self.items c.pop.result (subst HasEachIdOnce c.in-Few.is c.self.invariant) c.pop.ensures.items

pub returns-in-Few-clause-alone : goal.returns-in-Few-clause-alone
returns-in-Few-clause-alone c =
    last_alone c.in-Few.few.items c.pop.new.self.items c.pop.result (subst HasEachIdOnce c.in-Few.is c.self.invariant) c.pop.ensures.items
