-- Proofs that the impl of `Hash` of types cites: types that are the same are hashed alike.
use Rattle.std.proofs.Common.{◌≡◌, refl, sym, ap, true≢false, Bool, true, false, IsTrue, ℕ, ◌+◌, ◌%◌, ◌^◌, ◌&&◌, List, [], ◌∷◌, fold}
use Rattle.std.specs.Cmp.Lexicographic.{pointwise}
use Rattle.std.specs.Hash.{u64}
use Rattle.std.specs.Hash.FoldHasher as folding
use Rattle.eco_ids.specs.declared.id.Id.{Id}
use Rattle.eco_ids.specs.Fingerprint.{fingerprint, id_share}
use Rattle.eco_ids.specs.contracts.id.IdHash.TheImpl.Laws as hashed
use Rattle.eco_ids.specs.contracts.id.IdPartialEq.TheImpl as equal

shares_tie : (x y : Id) → IsTrue ((equal.eq-value).it x y) → id_share x ≡ id_share y
shares_tie x y e = ap (λ fed. folding.finish (fold folding.write folding.initial fed)) (hashed.respects_eq-law x y e)

split : {X : Type 0} (a b : Bool) → (IsTrue a → IsTrue b → X) → IsTrue (a && b) → X
split true b f h = f refl h
split false b f h = absurd (true≢false (sym h))

sums_tie : (xs ys : List Id) (s t : ℕ) → s ≡ t → IsTrue (pointwise (equal.eq-value).it xs ys)
    → fold (λ n i. n + id_share i) s xs ≡ fold (λ n i. n + id_share i) t ys
sums_tie [] [] s t e h = e
sums_tie [] (y ∷ ys) s t e h = absurd (true≢false (sym h))
sums_tie (x ∷ xs) [] s t e h = absurd (true≢false (sym h))
sums_tie (x ∷ xs) (y ∷ ys) s t e h =
    split ((equal.eq-value).it x y) (pointwise (equal.eq-value).it xs ys)
    (λ p q. sums_tie xs ys _ _ (λ i. e i + shares_tie x y p i) q) h

pub fingerprints_tie : (xs ys : List Id) → IsTrue (pointwise (equal.eq-value).it xs ys) → u64 (fingerprint xs) ≡ u64 (fingerprint ys)
fingerprints_tie xs ys h = ap (λ n. u64 (n % 2 ^ 64)) (sums_tie xs ys 0 0 refl h)
