use Rattle.eco_entities.proofs.Common.{common_steps, ◌<◌, arith}
use Rattle.eco_entities.proofs.Marks.{mark_within, next_marked, next_fresh, next_over}
use Rattle.eco_entities.proofs.slots.Slots.next.Goals.{in-Some, in-None}
use Rattle.eco_entities.proofs.slots.Slots.next.Goals as goal

pub returns-in-None-2 : goal.returns-in-None-2
returns-in-None-2 c =
    next_over c.self.inside c.args.self.now c.self.invariant c.self.view_is c.in-None-2.ensures (omega arith)

pub overflow_cast-result : goal.overflow_cast-result
overflow_cast-result c =
    let below : c.match-lowest.index < 1048576 =
    elim c.match-lowest.branch [
      | in-Some w ↦ mark_within _ _ _ c.match-lowest.index c.self.invariant (rw w.index-is w.in-Some.ensures)
      | in-None w ↦ omega arith
    ]
    in
    omega arith

pub returns : goal.returns
returns c = grind (arith, common_steps, in-Some, next_marked, in-None, next_fresh)
