use Rattle.eco_entities.proofs.Common.{common_steps, cond, set, ap, ◌∙◌, None, arith, label_of, renamed, changed}
use Rattle.eco_entities.proofs.Marks.{ShowsMarked, alive_within, slot_changed, unnamed_same}
use Rattle.eco_entities.proofs.Shown.{name_read}
use Rattle.eco_entities.proofs.slots.Slots.take_name.Goals.{After-remove}
use Rattle.eco_entities.proofs.slots.Slots.take_name.Goals as goal

pub index-requires : goal.index-requires
index-requires c = grind (arith, common_steps, alive_within)

pub index_mut-requires : goal.index_mut-requires
index_mut-requires c = grind (arith, common_steps, alive_within)

pub returns-then-not-is_named-clause-renamed : goal.returns-then-not-is_named-clause-renamed
returns-then-not-is_named-clause-renamed c = grind (arith, common_steps, unnamed_same)

pub returns-then-not-is_named-clause-was : goal.returns-then-not-is_named-clause-was
returns-then-not-is_named-clause-was c =
    let label = label_of c.self.inside.labels in
    let e = c.args.entity in
    let within = alive_within c.self.inside c.args.self.now c.self.invariant c.self.view_is e c.requires in
    ap (λ b. cond b (label e.index) None) c.if-not-is_named.ensures
    ∙ name_read c.self.inside c.args.self.now c.self.view_is e c.index.result.now c.requires within c.index.ensures

-- the slot without its name
renamed_there : (c : goal.After-remove) → ShowsMarked c.self.inside.limit (label_of c.remove.new.self)
    (set c.self.inside.slots.items c.args.entity.index c.set_named.new.self) c.self.inside.free (changed c.args.self.now c.args.entity (renamed None))
renamed_there c =
    let e = c.args.entity in
    let label' = label_of c.remove.new.self in
    slot_changed c.self.inside c.args.self.now c.self.invariant c.self.view_is label' e c.index_mut.result.now c.set_named.new.self (renamed None)
    c.remove.ensures.removed.others c.requires c.index_mut.ensures.value (c.set_named.ensures (label_of c.self.inside.labels e.index) (label' e.index))

pub invariant_of-self : goal.invariant_of-self
invariant_of-self c = (renamed_there (goal.at.invariant_of-self c).After-remove).0

pub returns-clause-renamed : goal.returns-clause-renamed
returns-clause-renamed c = (renamed_there (goal.at.returns-clause-renamed c).After-remove).1

pub returns-clause-was : goal.returns-clause-was
returns-clause-was c =
    let label = label_of c.self.inside.labels in
    let e = c.args.entity in
    let within = alive_within c.self.inside c.args.self.now c.self.invariant c.self.view_is e c.requires in
    c.remove.ensures.was ∙ (ap (λ b. cond b (label e.index) None) c.if-not-is_named.ensures
    ∙ name_read c.self.inside c.args.self.now c.self.view_is e c.index.result.now c.requires within c.index.ensures)
