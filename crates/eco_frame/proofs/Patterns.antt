-- `==` of patterns says whether they are the same.
use Rattle.eco_frame.proofs.BatchesCommon.{◌≡◌, ap, arith, common_steps, Decides, Part, Is, Each, Any, Pattern, One, Two}
use Rattle.eco_ids.proofs.Ascending.{both, first, second}
use Rattle.eco_ids.proofs.SameIds.{entity_eq-Decides}
use Rattle.eco_ids.specs.contracts.pattern.PartPartialEq.TheImpl as part_eq
use Rattle.eco_ids.specs.contracts.pattern.PatternPartialEq.TheImpl as pattern_eq

part_eq-Decides : (p q : Part) → Decides ((part_eq.eq-value).it p q) (p ≡ q)
part_eq-Decides (Is a) (Is b) = (λ e. ap Is ((entity_eq-Decides a b).0 e), λ e. (entity_eq-Decides a b).1 (let same : a ≡ b = cc in same))
part_eq-Decides (Is a) Each = (λ e. cc, λ e. cc)
part_eq-Decides (Is a) Any = (λ e. cc, λ e. cc)
part_eq-Decides Each (Is b) = (λ e. cc, λ e. cc)
part_eq-Decides Each Each = grind (arith, common_steps)
part_eq-Decides Each Any = (λ e. cc, λ e. cc)
part_eq-Decides Any (Is b) = (λ e. cc, λ e. cc)
part_eq-Decides Any Each = (λ e. cc, λ e. cc)
part_eq-Decides Any Any = grind (arith, common_steps)

pub pattern_eq-Decides : (p q : Pattern) → Decides ((pattern_eq.eq-value).it p q) (p ≡ q)
pattern_eq-Decides (One a) (One b) = (λ e. ap One ((entity_eq-Decides a b).0 e), λ e. (entity_eq-Decides a b).1 (let same : a ≡ b = cc in same))
pattern_eq-Decides (One a) (Two r t) = (λ e. cc, λ e. cc)
pattern_eq-Decides (Two r t) (One a) = (λ e. cc, λ e. cc)
pattern_eq-Decides (Two r t) (Two s u) = grind (arith, common_steps, part_eq-Decides, first, second, both)
