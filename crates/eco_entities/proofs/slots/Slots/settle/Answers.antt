use Rattle.eco_entities.proofs.Common.{common_steps, None, arith, set, label_of, with_record, newcomer}
use Rattle.eco_entities.proofs.Marks.{ShowsMarked, free_within, slot_put}
use Rattle.eco_entities.proofs.slots.Slots.settle.Goals.{After-newcomer}
use Rattle.eco_entities.proofs.slots.Slots.settle.Goals as goal

-- the slot at which it came to live
put : (c : goal.After-newcomer) → ShowsMarked c.self.inside.limit (label_of c.self.inside.labels)
    (set c.self.inside.slots.items c.args.entity.index c.newcomer.result) c.remove.new.self
    (with_record c.args.self.now c.args.entity (newcomer None None))
put c =
    let e = c.args.entity in
    slot_put c.self.inside c.args.self.now c.self.invariant c.self.view_is _ e.index c.newcomer.result _
    (free_within c.self.inside c.args.self.now c.self.invariant c.self.view_is e c.requires) (c.newcomer.ensures (label_of c.self.inside.labels e.index))
    (omega arith) c.remove.ensures

pub invariant_of-self : goal.invariant_of-self
invariant_of-self c = (put (goal.at.invariant_of-self c).After-newcomer).0

pub returns : goal.returns
returns c = (put (goal.at.returns c).After-newcomer).1

pub index_mut-requires : goal.index_mut-requires
index_mut-requires c = grind (arith, common_steps, free_within)
