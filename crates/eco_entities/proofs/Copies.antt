-- What is found in a map, and in a copy of it.
use Rattle.eco_entities.proofs.Common.{◌≡◌, Bool, true, false, cond, List, [], ◌∷◌, Option, Some, option_map, refl, ap, ◌∙◌, AllZip, lookup}

-- what is read off a value that is found is the same in a copy whose entries agree in it, and in what the test says of their keys
lookup_copied : {K X Y : Type 0} (R : K × X → K × X → Type 0) (of : Option X → Y) (test : K → Bool)
    → ((p q : K × X) → R p q → (test q.0 ≡ test p.0) × (of (Some q.1) ≡ of (Some p.1))) → (es fs : List (K × X)) → AllZip R es fs
    → of (lookup test fs) ≡ of (lookup test es)
lookup_copied R of test agree [] [] all = refl
lookup_copied R of test agree [] (f ∷ fs) all = absurd all
lookup_copied R of test agree (e ∷ es) [] all = absurd all
lookup_copied R of test agree (e ∷ es) (f ∷ fs) all =
    ap (λ b. of (cond b (Some f.1) (lookup test fs))) (agree e f all.0).0 ∙ by (lookup_copied R of test agree es fs all.1) (test e.0)
  where
    by : of (lookup test fs) ≡ of (lookup test es) → (b : Bool) → of (cond b (Some f.1) (lookup test fs)) ≡ of (cond b (Some e.1) (lookup test es))
    by rest true = (agree e f all.0).1
    by rest false = rest

-- the values of a copy show what those of the map do
pub lookup_values : {K X Y : Type 0} (shown : X → Y) (test : K → Bool) (es fs : List (K × X))
    → AllZip (λ p q. (q.0 ≡ p.0) × (shown q.1 ≡ shown p.1)) es fs → option_map shown (lookup test fs) ≡ option_map shown (lookup test es)
lookup_values shown test =
    lookup_copied (λ p q. (q.0 ≡ p.0) × (shown q.1 ≡ shown p.1)) (option_map shown) test (λ p q same. (ap test same.0, ap Some same.1))

-- the keys of a copy show what those of the map do
pub lookup_keys : {K X Y : Type 0} (shown : K → Y) (test : Y → Bool) (es fs : List (K × X))
    → AllZip (λ p q. (shown q.0 ≡ shown p.0) × (q.1 ≡ p.1)) es fs → lookup (λ k. test (shown k)) fs ≡ lookup (λ k. test (shown k)) es
lookup_keys shown test =
    lookup_copied (λ p q. (shown q.0 ≡ shown p.0) × (q.1 ≡ p.1)) (λ o. o) (λ k. test (shown k)) (λ p q same. (ap test same.0, ap Some same.1))
