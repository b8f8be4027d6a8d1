use Rattle.eco_entities.proofs.Common.{common_steps, ap, ◌∙◌, set, arith, label_of, with_death}
use Rattle.eco_entities.proofs.Marks.{ShowsMarked, alive_within, living_unmarked, marks_as_slots, slot_died}
use Rattle.eco_entities.proofs.slots.Slots.kill.Goals.{Joined-is_free, then-is_free, else-is_free}
use Rattle.eco_entities.proofs.slots.Slots.kill.Goals as goal

-- the slot after the death, and the marks whichever way
died : (c : goal.Joined-is_free) → ShowsMarked c.if-is_free.self-inside.limit (label_of c.if-is_free.self-inside.labels)
    (set c.if-is_free.self-inside.slots.items c.args.entity.index c.raised-left.result) c.if-is_free.self-inside.free (with_death c.args.self.now c.args.entity)
died c =
    let label = label_of c.self.inside.labels in
    let e = c.args.entity in
    elim c.if-is_free.branch [
      | then-is_free b ↦ rw b.self-inside-is
          (slot_died c.self.inside c.args.self.now c.self.invariant c.self.view_is _ e c.raised-left.result c.requires
          (c.raised-left.ensures (label e.index)) (b.insert.ensures ∙ ap (set c.self.inside.free e.index) (b.if-is_free.ensures (label e.index))))
      | else-is_free b ↦ rw b.self-inside-is
          (slot_died c.self.inside c.args.self.now c.self.invariant c.self.view_is _ e c.raised-left.result c.requires
          (c.raised-left.ensures (label e.index))
          (living_unmarked c.self.inside c.args.self.now c.self.invariant c.self.view_is e c.requires
          ∙ ap (set c.self.inside.free e.index) (b.if-is_free.ensures (label e.index))))
    ]

pub invariant_of-self : goal.invariant_of-self
invariant_of-self c = (died (goal.at.invariant_of-self c).Joined-is_free).0

pub returns : goal.returns
returns c = (died (goal.at.returns c).Joined-is_free).1

pub index_mut-requires : goal.index_mut-requires
index_mut-requires c = grind (arith, common_steps, alive_within, then-is_free, else-is_free)

pub insert-requires : goal.insert-requires
insert-requires c = grind (arith, common_steps, alive_within, marks_as_slots)
