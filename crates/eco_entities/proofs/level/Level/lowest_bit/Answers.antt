use Rattle.eco_entities.proofs.Common.{◌≡◌, ◌<◌, ◌^◌, get_or, arith, common_steps}
use Rattle.eco_entities.proofs.Bits.{lowest_of_first}
use Rattle.eco_entities.proofs.level.Level.lowest_bit.Goals as goal

pub returns : goal.returns
returns c =
    let read : c.index.result.now ≡ get_or c.args.self.now c.args.at 0 = grind (arith, common_steps) in
    let fits : c.index.result.now < 2 ^ 64 = omega arith in
    rw read (lowest_of_first c.args.self.now c.args.at c.requires.first (rw read at fits))
