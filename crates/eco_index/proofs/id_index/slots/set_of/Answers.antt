use Rattle.eco_index.proofs.Common.{◌≡◌, ◌∙◌, length, take, ap, refl, arith, nat_eq, list_any}
use Rattle.std.proofs.Math.Seq.{take-length}
use Rattle.eco_index.proofs.SlotLists.{inserted_next}
use Rattle.eco_index.proofs.id_index.slots.set_of.Goals as goal

pub loop-slot-preserved : goal.loop-slot-preserved
loop-slot-preserved c =
    inserted_next c.loop-slot.set.keys c.insert.new.self.keys c.args.slots.now c.loop-slot.slot-index _ _ (omega arith) refl c.in_ok-insert.ensures.keys
    c.loop-slot.invariant

pub returns : goal.returns
returns c n =
    let end : c.loop-slot.slot-index ≡ length c.args.slots.now = omega arith in
    c.loop-slot.invariant n ∙ ap (λ k. list_any (nat_eq n) (take k c.args.slots.now)) end
    ∙ ap (list_any (nat_eq n)) (take-length c.args.slots.now)
