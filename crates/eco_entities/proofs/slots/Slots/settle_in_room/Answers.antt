use Rattle.eco_entities.proofs.Common.{refl, sym, arith}
use Rattle.eco_entities.proofs.Marks.{mark_within, next_marked, next_fresh}
use Rattle.eco_entities.proofs.slots.Slots.settle_in_room.Goals as goal

pub settle_at-requires-clause-small : goal.settle_at-requires-clause-small
settle_at-requires-clause-small c = mark_within _ _ _ c.in-Some.index c.self.invariant c.in-Some.ensures

pub settle_at-requires-clause-next : goal.settle_at-requires-clause-next
settle_at-requires-clause-next c =
    sym (next_marked c.self.inside c.args.self.now c.self.invariant c.self.view_is c.in-Some.index _ c.in-Some.ensures refl)

pub settle_at-requires-in-None-clause-next : goal.settle_at-requires-in-None-clause-next
settle_at-requires-in-None-clause-next c =
    sym (next_fresh c.self.inside c.args.self.now c.self.invariant c.self.view_is c.len-known.result _ c.in-None.ensures (omega arith) (omega arith) refl)
