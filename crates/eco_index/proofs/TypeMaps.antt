-- The map from fingerprints to slots where a table takes another type.
use Rattle.eco_index.proofs.Common.{◌≡◌, ◌≢◌, ℕ, Bool, true, false, true≢false, cond, not, ◌&&◌, List, Option, Some, nat_eq, refl, sym, ap, ◌∙◌}
use Rattle.eco_index.proofs.Common.{Decides-eqb, Id, Turns, IsTypeMap, is_but, type_marked}
use Rattle.eco_ids.specs.Fingerprint.{fingerprint}

-- one number is put on, and off it goes again or another goes, unless both are one
swapped : (a b : Bool) → cond ((a && not b) && true) false (cond (b && true) true a) ≡ b
swapped true true = refl
swapped true false = refl
swapped false true = refl
swapped false false = refl

undone : (a b : Bool) → cond ((b && not a) && true) false (cond (b && true) true a) ≡ a
undone true true = refl
undone true false = refl
undone false true = refl
undone false false = refl

module _ (types types' : ℕ → Option (List Id)) (l l1 l2 : ℕ → ℕ → Bool) (n : ℕ) (t u : List Id) (index : IsTypeMap types l) (had : types n ≡ Some t)
    (others : (k : ℕ) → k ≢ n → types' k ≡ types k) (on : Turns true (nat_eq (fingerprint u)) l l1 n) where
  turned_twice : (f g : ℕ) → Turns false (is_but f g) l1 l2 n
      → ((m : ℕ) → cond (is_but f g m && true) false (cond (nat_eq (fingerprint u) m && true) true (nat_eq (fingerprint t) m)) ≡ type_marked (types' n) m)
      → IsTypeMap types' l2
  turned_twice f g off own m k =
      off m k ∙ ap (cond (is_but f g m && nat_eq n k) false) (on m k) ∙ by (nat_eq n k) refl
    where
      neither : (a b x : Bool) → cond (a && false) false (cond (b && false) true x) ≡ x
      neither true true x = refl
      neither true false x = refl
      neither false true x = refl
      neither false false x = refl

      by : (c : Bool) → nat_eq n k ≡ c
          → cond (is_but f g m && c) false (cond (nat_eq (fingerprint u) m && c) true (l m k)) ≡ type_marked (types' k) m
      by true e =
          let here : n ≡ k = (Decides-eqb n k).0 e in
          ap (λ b. cond (is_but f g m && true) false (cond (nat_eq (fingerprint u) m && true) true b))
          (ap (l m) (sym here) ∙ index m n ∙ ap (λ o. type_marked o m) had)
          ∙ own m ∙ ap (λ j. type_marked (types' j) m) here
      by false e =
          let apart : k ≢ n = λ h. true≢false (sym ((Decides-eqb n k).1 (sym h)) ∙ e) in
          neither (is_but f g m) (nat_eq (fingerprint u) m) (l m k) ∙ index m k ∙ ap (λ o. type_marked o m) (sym (others k apart))

  -- a slot has another type
  pub marks_turned : types' n ≡ Some u → Turns false (is_but (fingerprint t) (fingerprint u)) l1 l2 n → IsTypeMap types' l2
  marks_turned has off =
      turned_twice _ _ off (λ m. swapped (nat_eq (fingerprint t) m) (nat_eq (fingerprint u) m) ∙ ap (λ o. type_marked o m) (sym has))

  -- a slot was to have another type, and keeps its own
  pub marks_back : types' n ≡ Some t → Turns false (is_but (fingerprint u) (fingerprint t)) l1 l2 n → IsTypeMap types' l2
  marks_back has off =
      turned_twice _ _ off (λ m. undone (nat_eq (fingerprint t) m) (nat_eq (fingerprint u) m) ∙ ap (λ o. type_marked o m) (sym has))
