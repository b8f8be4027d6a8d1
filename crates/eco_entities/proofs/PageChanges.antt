-- What pages of names are after each change, and copies of them.
use Rattle.eco_entities.proofs.Common.{arith, ◌≡◌, ℕ, Bool, true, cond, List, [], ◌∷◌, slice_get, get_or, refl, sym, ap, subst, ◌∙◌, Option}
use Rattle.eco_entities.proofs.Common.{Some, None, option_map, T, AllZip, lookup, is_at, nat_cmp, eq_by_cmp, below_all, find, is_sorted, is_sorted-put}
use Rattle.eco_entities.proofs.Common.{is_sorted-where_key, put, where_key, nat_cmp_total, none-some, same_Some, get_or_from_slice_get, Label, label_text}
use Rattle.eco_entities.proofs.Common.{IsEntry, SameTexts}
use Rattle.eco_entities.proofs.Copies.{lookup_values}

holds : (b : Bool) → T b → b ≡ true
holds b h = grind arith

module _ {X : Type 0} where
  -- the entry that is read at the index's place
  pub entry_read : (k : ℕ) (es : List (ℕ × X)) (n : ℕ) (e : ℕ × X) → IsEntry k es n → e ≡ get_or es n e
      → (e.0 ≡ k) × (Some e.1 ≡ find nat_cmp k es)
  entry_read k es n e h is = by (slice_get es n) refl h.there h.found
    where
      by : (o : Option (ℕ × X)) → slice_get es n ≡ o → option_map (λ f. f.0) o ≡ Some k → option_map (λ f. f.1) o ≡ find nat_cmp k es
          → (e.0 ≡ k) × (Some e.1 ≡ find nat_cmp k es)
      by None s t found = absurd (none-some k t)
      by (Some f) s t found =
          let same : e ≡ f = is ∙ get_or_from_slice_get es n f e s in
          (ap (λ p. p.0) same ∙ same_Some f.0 k t, ap (λ p. Some p.1) same ∙ found)

  pub sorted_put : (k : ℕ) (x : X) (es : List (ℕ × X)) → is_sorted nat_cmp es ≡ true → is_sorted nat_cmp (put nat_cmp k x es) ≡ true
  sorted_put k x es h = holds _ (is_sorted-put nat_cmp nat_cmp_total k x es (subst T (sym h) tt))

  pub sorted_where : (p : ℕ → Bool) (es : List (ℕ × X)) → is_sorted nat_cmp es ≡ true → is_sorted nat_cmp (where_key nat_cmp p es) ≡ true
  sorted_where p es h = holds _ (is_sorted-where_key nat_cmp p es (subst T (sym h) tt))

  pub find_is : (k : ℕ) (es : List (ℕ × X)) → find nat_cmp k es ≡ lookup (is_at (nat_cmp k)) es
  find_is k [] = refl
  find_is k (e ∷ es) = ap (cond (eq_by_cmp nat_cmp k e.0) (Some e.1)) (find_is k es)

-- a copy has the same texts
pub copied_texts : (es fs : List (ℕ × Label)) → AllZip (λ p q. (q.0 ≡ p.0) × (label_text q.1 ≡ label_text p.1)) es fs → SameTexts es fs
copied_texts es fs all = record {
  same = λ k. ap (option_map label_text) (find_is k fs) ∙ (lookup_values label_text (is_at (nat_cmp k)) es fs all ∙ ap (option_map label_text)
      (sym (find_is k es)));
}

copied_below : (y : ℕ) (es fs : List (ℕ × Label)) → AllZip (λ p q. (q.0 ≡ p.0) × (label_text q.1 ≡ label_text p.1)) es fs
    → below_all nat_cmp y fs ≡ below_all nat_cmp y es
copied_below y [] [] all = refl
copied_below y [] (f ∷ fs) all = absurd all
copied_below y (e ∷ es) [] all = absurd all
copied_below y (e ∷ es) (f ∷ fs) all = rw (all.0.0, copied_below y es fs all.1) refl

-- and the same order
pub copied_sorted : (es fs : List (ℕ × Label)) → AllZip (λ p q. (q.0 ≡ p.0) × (label_text q.1 ≡ label_text p.1)) es fs
    → is_sorted nat_cmp fs ≡ is_sorted nat_cmp es
copied_sorted [] [] all = refl
copied_sorted [] (f ∷ fs) all = absurd all
copied_sorted (e ∷ es) [] all = absurd all
copied_sorted (e ∷ es) (f ∷ fs) all = rw (all.0.0, copied_below e.0 es fs all.1, copied_sorted es fs all.1) refl
