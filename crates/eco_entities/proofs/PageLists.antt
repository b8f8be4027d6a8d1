-- Values under keys that stand in pages: each key has one page where it may be.
use Rattle.eco_entities.proofs.Common.{◌≡◌, ℕ, zero, suc, ◌≤◌, List, [], ◌∷◌, length, set, slice_get, refl, sym, ap, ◌∙◌, Option}
use Rattle.eco_entities.proofs.Common.{Some, None, option_and_then, inl, inr, AllZip, cases_eq, slice_get_past, slice_get-set_other, slice_get-set_there}
use Rattle.eco_entities.proofs.Common.{ChangesAt, KeepsAnswers}

module _ {P K V : Type 0} (at : K → ℕ) (read : P → K → Option V) where
  -- the value under a key
  abbrev pub value_at : List P → K → Option V
  value_at pages k = option_and_then (λ p. read p k) (slice_get pages (at k))

  pub value_read : (pages : List P) (k : K) (n : ℕ) (p : P) → n ≡ at k → slice_get pages n ≡ Some p → value_at pages k ≡ read p k
  value_read pages k n p is there =
      ap (λ m. option_and_then (λ q. read q k) (slice_get pages m)) (sym is) ∙ ap (option_and_then (λ q. read q k)) there

  -- a key whose page has the same value for it
  same_read : (pages : List P) (n : ℕ) (old new : P) → slice_get pages n ≡ Some old → (j : K) → read new j ≡ read old j
      → value_at (set pages n new) j ≡ value_at pages j
  same_read pages n old new there j same_value = elim (cases_eq (at j) n) [
    | inl same ↦ ap (λ m. option_and_then (λ q. read q j) (slice_get (set pages n new) m)) same
        ∙ (ap (option_and_then (λ q. read q j)) (slice_get-set_there pages n new old there)
        ∙ (same_value ∙ sym (value_read pages j n old (sym same) there)))
    | inr away ↦ ap (option_and_then (λ q. read q j)) (slice_get-set_other pages n (at j) new away)
  ]

  -- another page
  pub page_changed : (pages : List P) (k : K) (n : ℕ) (old new : P) (v : Option V) → n ≡ at k → slice_get pages n ≡ Some old
      → ChangesAt (read old) (read new) k v → ChangesAt (value_at pages) (value_at (set pages n new)) k v
  page_changed pages k n old new v is there change = record {
    here = ap (λ m. option_and_then (λ q. read q k) (slice_get (set pages n new) m)) (sym is)
        ∙ (ap (option_and_then (λ q. read q k)) (slice_get-set_there pages n new old there) ∙ change.here);
    others = λ j apart. same_read pages n old new there j (change.others j apart);
  }

  pub absent : (pages : List P) (k : K) (n : ℕ) → n ≡ at k → length pages ≤ n → value_at pages k ≡ None
  absent pages k n is past =
      ap (λ m. option_and_then (λ q. read q k) (slice_get pages m)) (sym is) ∙ ap (option_and_then (λ q. read q k)) (slice_get_past pages n past)

  -- copies of all pages
  pub values_copied : (C : P → P → Type 0) → ((p q : P) → C p q → KeepsAnswers (read p) (read q)) → (pages pages' : List P)
      → AllZip C pages pages' → KeepsAnswers (value_at pages) (value_at pages')
  values_copied C kept pages pages' all = record { all = λ k. by k (at k) pages pages' all }
    where
      by : (k : K) (n : ℕ) (ps qs : List P) → AllZip C ps qs
          → option_and_then (λ p. read p k) (slice_get qs n) ≡ option_and_then (λ p. read p k) (slice_get ps n)
      by k n [] [] all = refl
      by k n [] (q ∷ qs) all = absurd all
      by k n (p ∷ ps) [] all = absurd all
      by k zero (p ∷ ps) (q ∷ qs) all = (kept p q all.0).all k
      by k (suc n) (p ∷ ps) (q ∷ qs) all = by k n ps qs all.1

pub changes_then : {K V : Type 0} {f g h : K → V} {k : K} {v : V} → KeepsAnswers f g → ChangesAt g h k v → ChangesAt f h k v
changes_then a c = record { here = c.here; others = λ j apart. c.others j apart ∙ a.all j }
