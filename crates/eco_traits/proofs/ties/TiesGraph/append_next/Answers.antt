use Rattle.eco_traits.proofs.CleanupCommon.{world_of, Root, Falling, on_ok}
use Rattle.eco_traits.proofs.CleanupNoted.{all_known, come_of}
use Rattle.eco_traits.proofs.ties.TiesGraph.append_next.Goals as goal

pub returns-in-Root-clause-exact : goal.returns-in-Root-clause-exact
returns-in-Root-clause-exact c =
    on_ok c.append_named.result
    (λ come. come_of (world_of c.args.self.now.places.now.entities) c.args.self.now.places.now.slots c.args.node (Root c.in-Root.entity) _ _ c.in-Root.is come)
    c.append_named.ensures

pub returns-in-Root-clause-within : goal.returns-in-Root-clause-within
returns-in-Root-clause-within c = all_known (world_of c.args.self.now.places.now.entities) c.args.self.now.places.now.slots c.args.node

pub returns-in-Falling-clause-exact : goal.returns-in-Falling-clause-exact
returns-in-Falling-clause-exact c =
    on_ok c.append_standing.result
    (λ come. come_of (world_of c.args.self.now.places.now.entities) c.args.self.now.places.now.slots c.args.node (Falling c.in-Falling.slot) _ _
    c.in-Falling.is come)
    c.append_standing.ensures

pub returns-in-Falling-clause-within : goal.returns-in-Falling-clause-within
returns-in-Falling-clause-within c = all_known (world_of c.args.self.now.places.now.entities) c.args.self.now.places.now.slots c.args.node
