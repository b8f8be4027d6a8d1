use Rattle.eco_entities.proofs.Common.{common_steps, cond, set, ap, ◌∙◌, Some, None, option_map, arith, map_state, label_text, label_of, renamed}
use Rattle.eco_entities.proofs.Common.{state_of, changed}
use Rattle.eco_entities.proofs.Marks.{ShowsMarked, alive_within, slot_changed}
use Rattle.eco_entities.proofs.Shown.{name_read}
use Rattle.eco_entities.proofs.slots.Slots.give_name.Goals.{After-set_named, then-is_named, else-is_named}
use Rattle.eco_entities.proofs.slots.Slots.give_name.Goals as goal

pub index_mut-slot-requires : goal.index_mut-slot-requires
index_mut-slot-requires c = grind (arith, common_steps, alive_within)

-- the slot with its name
renamed_there : (c : goal.After-set_named) → ShowsMarked c.self.inside.limit (label_of c.insert.new.self)
    (set c.self.inside.slots.items c.args.entity.index c.set_named.new.self) c.self.inside.free
    (changed c.args.self.now c.args.entity (renamed (Some (label_text c.args.name))))
renamed_there c =
    let label = label_of c.self.inside.labels in
    let label' = label_of c.insert.new.self in
    let e = c.args.entity in
    let old = c.index_mut-slot.result.now in
    slot_changed c.self.inside c.args.self.now c.self.invariant c.self.view_is label' e old c.set_named.new.self (renamed (Some (label_text c.args.name)))
    c.in_ok-label.ensures.ok.others c.requires c.index_mut-slot.ensures.value
    (c.set_named.ensures (label e.index) (label' e.index) ∙ ap (λ l. map_state (renamed l) (state_of (label e.index) old)) c.in_ok-label.ensures.ok.here)

pub invariant_of-self-2 : goal.invariant_of-self-2
invariant_of-self-2 c = (renamed_there (goal.at.invariant_of-self-2 c).After-set_named).0

pub returns-clause-ok : goal.returns-clause-ok
returns-clause-ok c = (renamed_there (goal.at.returns-clause-ok c).After-set_named).1

pub returns-clause-was : goal.returns-clause-was
returns-clause-was c =
    let label = label_of c.self.inside.labels in
    let e = c.args.entity in
    let within = alive_within c.self.inside c.args.self.now c.self.invariant c.self.view_is e c.requires in
    let own = name_read c.self.inside c.args.self.now c.self.view_is e c.index_mut-slot.result.now c.requires within c.index_mut-slot.ensures.value in
    elim c.if-is_named.branch [
      | then-is_named b ↦ ap (option_map label_text) b.was-is
          ∙ (c.in_ok-label.ensures.was ∙ (ap (λ b. cond b (label e.index) None) b.if-is_named.ensures ∙ own))
      | else-is_named b ↦ ap (option_map label_text) b.was-is ∙ (ap (λ b. cond b (label e.index) None) b.if-is_named.ensures ∙ own)
    ]
