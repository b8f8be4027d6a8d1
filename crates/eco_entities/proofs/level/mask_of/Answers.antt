use Rattle.eco_entities.proofs.Common.{common_steps, ◌≤◌, arith}
use Rattle.eco_entities.specs.Words.{range_mask}
use Rattle.eco_entities.proofs.Bits.{mask_order, mask_is}
use Rattle.eco_entities.proofs.level.mask_of.Goals as goal

pub overflow_sub-result : goal.overflow_sub-result
overflow_sub-result c = grind (arith, common_steps, mask_order)

pub returns : goal.returns
unfolding range_mask
returns c =
    let order : c.min-low.result ≤ c.min-high.result = omega arith in
    rw (
      c.low_bits.ensures,
      c.low_bits-2.ensures,
      mask_is _ _ order,
      c.min-high.ensures,
      c.min-low.ensures,
      c.saturating_sub.ensures,
      c.saturating_sub-2.ensures,
    )
