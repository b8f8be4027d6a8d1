-- Texts that grow part by part.
use Rattle.eco_script.proofs.PrintedCommon.{◌≡◌, ◌++◌, ◌∙◌, ℕ, List, ap, append_assoc, refl}

-- three steps, each of which adds what it says, add all of it in order
pub in_turn : (t u v w a b c d e : List ℕ) → u ≡ t ++ a ++ b → v ≡ u ++ c ++ d → w ≡ v ++ e → w ≡ t ++ (a ++ b ++ c ++ d ++ e)
in_turn t u v w a b c d e p q r =
    let all : t ++ a ++ b ++ c ++ d ++ e ≡ t ++ (a ++ b ++ c ++ d ++ e) = simp append_assoc refl in
    r ∙ ap (λ x. x ++ e) (q ∙ ap (λ x. x ++ c ++ d) p) ∙ all
