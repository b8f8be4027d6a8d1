use Rattle.eco_grammar.proofs.Common.{IsOk, Ok, Err, Result, MatchResult, refl, arith, common_steps}
use Rattle.eco_grammar.proofs.Spelled.{name_utf8}
use Rattle.eco_grammar.proofs.resolve.reference_entity.Goals as goal

-- only the first case is left
first_case : {X E : Type 0} (r : Result X E) (P : X → Type 0) (Q : E → Type 0) → MatchResult r P Q → ((e : E) → Q e → ⊥) → IsOk r
first_case (Ok x) P Q m none = refl
first_case (Err e) P Q m none = absurd (none e m)

pub unwrap-name-requires : goal.unwrap-name-requires
unwrap-name-requires g c = grind (arith, common_steps, first_case, name_utf8)
