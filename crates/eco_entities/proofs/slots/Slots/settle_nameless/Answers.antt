use Rattle.eco_entities.proofs.Common.{refl, None, arith, label_of, newcomer, with_new}
use Rattle.eco_entities.proofs.Marks.{ShowsMarked, next_slot, slot_settled}
use Rattle.eco_entities.proofs.slots.Slots.settle_nameless.Goals.{In_ok-put}
use Rattle.eco_entities.proofs.slots.Slots.settle_nameless.Goals as goal

pub put-requires : goal.put-requires
put-requires c = next_slot c.self.inside c.args.self.now c.self.invariant c.self.view_is c.args.entity c.requires

-- it lives where the next entity does
settled : (c : goal.In_ok-put) → ShowsMarked c.self.inside.limit (label_of c.self.inside.labels) c.put.new.slots.items c.put.new.free
    (with_new c.args.self.now c.args.entity (newcomer None c.args.arity))
settled c =
    slot_settled c.self.inside c.args.self.now c.self.invariant c.self.view_is c.args.entity _ c.put.new.slots.items c.put.new.free c.newcomer-slot.result
    (newcomer None c.args.arity) (λ k n. refl) c.requires (omega arith) (c.newcomer-slot.ensures (label_of c.self.inside.labels c.args.entity.index))
    c.in_ok-put.ensures.slots c.in_ok-put.ensures.free

pub invariant_of-self-2 : goal.invariant_of-self-2
invariant_of-self-2 c = (settled (goal.at.invariant_of-self-2 c).In_ok-put).0

pub returns-clause-ok : goal.returns-clause-ok
returns-clause-ok c = (settled (goal.at.returns-clause-ok c).In_ok-put).1
