use Rattle.std.proofs.Common.{◌+◌, ◌-◌, length}
use Rattle.eco_search.proofs.Search.{IsSearch, left_of}
use Rattle.eco_search.proofs.least.is_found.Given as goal

abbrev pub invariant-loop-goal : goal.invariant-loop-goal
invariant-loop-goal g l =
    IsSearch g.G.Node.PartialEq.eq g.met.G.Node.Eq.laws g.met.G.Graph.same (g.G.Graph.leads l.graph) l.roots l.members.keys l.asked

abbrev pub decreases-loop-goal : goal.decreases-loop-goal
decreases-loop-goal g l =
    left_of g.G.Node.PartialEq.eq g.met.G.Node.Eq.laws g.met.G.Graph.same (g.G.Graph.nodes l.graph) l.members.keys + (length l.members.keys - l.asked)
