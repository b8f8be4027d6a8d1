use Rattle.eco_entities.proofs.Common.{common_steps, arith}
use Rattle.eco_entities.proofs.Levels.{flags_filled_from, nothing_filled, levelled-fill, length-bits_below}
use Rattle.eco_entities.proofs.free_set.FreeSet.insert_from.Goals as goal

pub invariant_of-self : goal.invariant_of-self
invariant_of-self c =
    levelled-fill c.self.inside.len c.args.from _ _ _ _ _ _ c.self.invariant c.if-from-self.true c.set_range.ensures
    (rw c.div_ceil-words.ensures at c.set_range-then-from-self.ensures)
    (rw (c.div_ceil.ensures, c.div_ceil-words.ensures) at c.set_range-then-from-self-2.ensures)

pub returns-then-from-self : goal.returns-then-from-self
returns-then-from-self c =
    flags_filled_from c.self.inside.len c.args.from c.self.inside.indices c.set_range.new.self c.args.self.now c.self.view_is (omega arith) c.set_range.ensures

pub returns-else-from-self : goal.returns-else-from-self
returns-else-from-self c = grind (arith, common_steps, length-bits_below, nothing_filled)
