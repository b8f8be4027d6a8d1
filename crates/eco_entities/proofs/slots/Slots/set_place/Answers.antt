use Rattle.eco_entities.proofs.Common.{common_steps, refl, arith, label_of, placed}
use Rattle.eco_entities.proofs.Marks.{alive_within, slot_changed}
use Rattle.eco_entities.proofs.slots.Slots.set_place.Goals as goal

pub invariant_of-self : goal.invariant_of-self
invariant_of-self c =
    let label = label_of c.self.inside.labels in
    (slot_changed c.self.inside c.args.self.now c.self.invariant c.self.view_is label c.args.entity c.index_mut.result.now c.set_place.new.self
    (placed c.args.place) (λ k n. refl) c.requires.alive c.index_mut.ensures.value (c.set_place.ensures (label c.args.entity.index))).0

pub returns : goal.returns
returns c = grind (arith, common_steps, slot_changed)

pub index_mut-requires : goal.index_mut-requires
index_mut-requires c = grind (arith, common_steps, alive_within)
