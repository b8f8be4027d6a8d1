use Rattle.eco_entities.proofs.Common.{◌≡◌, ◌-◌, ◌^◌, ap, ◌∙◌, arith}
use Rattle.std.proofs.lemmas.Nat.Bits.{ones_shr}
use Rattle.eco_entities.proofs.level.low_bits.Goals as goal

pub returns-else-count-eq0 : goal.returns-else-count-eq0
returns-else-count-eq0 c =
    let back : 64 - (64 - c.args.count) ≡ c.args.count = omega arith in
    ones_shr 64 (64 - c.args.count) (omega arith) ∙ ap (λ n. 2 ^ n - 1) back
