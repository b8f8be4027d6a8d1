use Rattle.eco_traits.proofs.CleanupCommon.{◌++◌, flat_map, ap, ◌∙◌, take_all, nodes_at, world_of}
use Rattle.eco_traits.proofs.CleanupNoted.{listed_come}
use Rattle.eco_traits.proofs.ties.Ties.append_listed.Goals as goal

pub returns : goal.returns
returns c =
    let w = world_of c.args.self.now.places.now.entities in
    let slots = c.args.self.now.places.now.slots in
    let items = c.listed-slot-items.result.now in
    listed_come w slots c.args.member c.args.pattern items c.args.found.now.items c.loop-slot.found.items
    (rw c.archetypes.ensures at c.listed-slot-items.ensures.listed)
    (c.loop-slot.invariant ∙ ap (λ ns. c.args.found.now.items ++ flat_map (nodes_at w slots c.args.member) ns)
    (take_all c.loop-slot.slot-index items c.loop-slot-test.false))
