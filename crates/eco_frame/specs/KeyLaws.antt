-- Keys that `==` takes for equal are the same.
use Rattle.std.specs.Prelude.{◌≡◌, true}
use Rattle.std.proofs.Common.{refl, sym, ap, true≢false}
use Rattle.eco_ids.specs.declared.pattern.Part.{Part}
use Rattle.eco_ids.specs.declared.pattern.Part.TheVariants.{Is, Each, Any}
use Rattle.eco_ids.specs.declared.pattern.Pattern.{Pattern}
use Rattle.eco_ids.specs.declared.pattern.Pattern.TheVariants.{One, Two}
use Rattle.eco_ids.specs.contracts.pattern.PartPartialEq.TheImpl as part_eq
use Rattle.eco_ids.specs.contracts.pattern.PatternPartialEq.TheImpl as pattern_eq
use Rattle.eco_ids.proofs.Ascending.{first, second}
use Rattle.eco_ids.proofs.SameIds.{entity_eq-Decides}
use Rattle.eco_frame.specs.Brought.{pattern_key}
use Rattle.eco_frame.specs.declared.key.Key.{Key}
use Rattle.eco_frame.specs.contracts.key.KeyPartialEq.TheImpl as key_eq

same_parts : (p q : Part) → (part_eq.eq-value).it p q ≡ true → p ≡ q
same_parts (Is a) (Is b) h = ap Is ((entity_eq-Decides a b).0 h)
same_parts (Is a) Each h = absurd (true≢false (sym h))
same_parts (Is a) Any h = absurd (true≢false (sym h))
same_parts Each (Is b) h = absurd (true≢false (sym h))
same_parts Each Each h = refl
same_parts Each Any h = absurd (true≢false (sym h))
same_parts Any (Is b) h = absurd (true≢false (sym h))
same_parts Any Each h = absurd (true≢false (sym h))
same_parts Any Any h = refl

same_patterns : (p q : Pattern) → (pattern_eq.eq-value).it p q ≡ true → p ≡ q
same_patterns (One a) (One b) h = ap One ((entity_eq-Decides a b).0 h)
same_patterns (One a) (Two r t) h = absurd (true≢false (sym h))
same_patterns (Two r t) (One a) h = absurd (true≢false (sym h))
same_patterns (Two r t) (Two s u) h = λ i. Two (same_parts r s (first _ _ h) i) (same_parts t u (second _ _ h) i)

pub same_keys : (a b : Key) → (key_eq.eq-value).it a b ≡ true → a ≡ b
same_keys a b h = ap pattern_key (same_patterns a.pattern b.pattern h)
