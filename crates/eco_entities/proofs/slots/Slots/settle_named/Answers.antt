use Rattle.eco_entities.proofs.Common.{ap, ◌∙◌, Some, arith, Living, label_text, label_of, newcomer, with_new}
use Rattle.eco_entities.proofs.Marks.{ShowsMarked, next_slot, next_unlabelled, slot_settled}
use Rattle.eco_entities.proofs.slots.Slots.settle_named.Goals.{In-Ok}
use Rattle.eco_entities.proofs.slots.Slots.settle_named.Goals as goal

pub put-requires : goal.put-requires
put-requires c = next_slot c.self.inside c.args.self.now c.self.invariant c.self.view_is c.args.entity c.requires

-- it lives where the next entity does, with its name
settled : (c : goal.In-Ok) → ShowsMarked c.self.inside.limit (label_of c.insert.new.self) c.put.new.slots.items c.put.new.free
    (with_new c.args.self.now c.args.entity (newcomer (Some (label_text c.args.name)) c.args.arity))
settled c =
    let e = c.args.entity in
    let label' = label_of c.insert.new.self in
    slot_settled c.self.inside c.args.self.now c.self.invariant c.self.view_is e label' c.put.new.slots.items c.put.new.free c.newcomer-slot.result
    (newcomer (Some (label_text c.args.name)) c.args.arity) c.in_ok-insert.ensures.ok.others c.requires (omega arith)
    (c.newcomer-slot.ensures (label' e.index) ∙ ap (λ o. Living e.generation (newcomer o c.args.arity)) c.in_ok-insert.ensures.ok.here)
    c.in-Ok.ensures.slots c.in-Ok.ensures.free

pub invariant_of-self-in-Ok : goal.invariant_of-self-in-Ok
invariant_of-self-in-Ok c = (settled (goal.at.invariant_of-self-in-Ok c).In-Ok).0

pub returns-in-Ok-clause-ok : goal.returns-in-Ok-clause-ok
returns-in-Ok-clause-ok c = (settled (goal.at.returns-in-Ok-clause-ok c).In-Ok).1

pub invariant_of-self-in-Err : goal.invariant_of-self-in-Err
invariant_of-self-in-Err c =
    let same = next_unlabelled c.self.inside c.args.self.now c.self.invariant c.self.view_is c.args.entity (label_of c.remove.new.self)
    (λ k n. c.remove.ensures.removed.others k n ∙ c.in_ok-insert.ensures.ok.others k n) c.requires in
    rw (c.in-Err.ensures.err_slots, c.in-Err.ensures.err_free, same) c.self.invariant

pub returns-in-Err-clause-err : goal.returns-in-Err-clause-err
returns-in-Err-clause-err c =
    let same = next_unlabelled c.self.inside c.args.self.now c.self.invariant c.self.view_is c.args.entity (label_of c.remove.new.self)
    (λ k n. c.remove.ensures.removed.others k n ∙ c.in_ok-insert.ensures.ok.others k n) c.requires in
    rw (c.in-Err.ensures.err_slots, same) c.self.view_is
