-- `!=` of lists of patterns says whether they differ.
use Rattle.eco_frame.proofs.BatchesCommon.{◌≡◌, Bool, true, false, List, pointwise, pointwise_decides, sym, ◌∙◌, true≢false, Decides, Pattern}
use Rattle.std.specs.Prelude.{not}
use Rattle.eco_frame.proofs.Patterns.{pattern_eq-Decides}
use Rattle.eco_ids.specs.contracts.pattern.PatternPartialEq.TheImpl as pattern_eq

patterns-Decide : (xs ys : List Pattern) → Decides (pointwise (pattern_eq.eq-value).it xs ys) (xs ≡ ys)
patterns-Decide = pointwise_decides pattern_eq-Decides

turned : (a b : Bool) → not a ≡ b → a ≡ not b
turned true b e = λ i. not (e i)
turned false b e = λ i. not (e i)

pub no_other : (xs ys : List Pattern) (differ : Bool) → differ ≡ not (pointwise (pattern_eq.eq-value).it xs ys) → differ ≡ false → xs ≡ ys
no_other xs ys differ is none = (patterns-Decide xs ys).0 (turned (pointwise (pattern_eq.eq-value).it xs ys) false (sym is ∙ none))

pub another : (xs ys : List Pattern) (differ : Bool) → differ ≡ not (pointwise (pattern_eq.eq-value).it xs ys) → differ ≡ true → xs ≡ ys → ⊥
another xs ys differ is some same =
    true≢false (sym ((patterns-Decide xs ys).1 same) ∙ turned (pointwise (pattern_eq.eq-value).it xs ys) true (sym is ∙ some))
