-- Where an index's entry is among entries in their order, and what changes there.
use Rattle.eco_entities.proofs.Common.{common_steps, ◌≡◌, ℕ, zero, suc, ◌<◌, ◌≤◌, Bool, true, not, List, [], ◌∷◌, drop, slice_get, refl}
use Rattle.eco_entities.proofs.Common.{sym, ap, subst, ◌∙◌, Some, None, Result, Ok, Err, arith, MatchResult, none-some, same_Some, and_parts, by_ranked}
use Rattle.eco_entities.proofs.Common.{ranked, Less, Equal, Greater, nat_cmp, eq_by_cmp, is_lt, by_order, below_all, find, is_sorted, where_key, IsEntry, IsGap}
use Rattle.std.specs.Cmp.{nat_cmp_is}

abbrev later : Result ℕ ℕ → Result ℕ ℕ
later (Ok n) = Ok (suc n)
later (Err n) = Err (suc n)

-- the place of the index's entry, or where one would stand
abbrev pub seat : {X : Type 0} → ℕ → List (ℕ × X) → Result ℕ ℕ
seat k [] = Err 0
seat k (e ∷ es) = by_order (nat_cmp k e.0) (Err 0) (Ok 0) (later (seat k es))

pub less_is : (x y : ℕ) → x < y → nat_cmp x y ≡ Less
less_is x y h = sym (nat_cmp_is x y Less h)

pub equal_is : (x y : ℕ) → x ≡ y → nat_cmp x y ≡ Equal
equal_is x y h = sym (nat_cmp_is x y Equal h)

pub greater_is : (x y : ℕ) → y < x → nat_cmp x y ≡ Greater
greater_is x y h = sym (nat_cmp_is x y Greater h)

is_less : (x y : ℕ) → is_lt (nat_cmp x y) ≡ true → x < y
is_less x y h = grind (arith, common_steps)

-- whether a key is another index's
abbrev pub other : ℕ → ℕ → Bool
other k j = not (eq_by_cmp nat_cmp k j)

module _ {X : Type 0} where
  -- an entry past another's is past each index up to that one
  past : (k y : ℕ) (e : ℕ × X) (es : List (ℕ × X)) → k ≤ y → below_all nat_cmp y (e ∷ es) ≡ true
      → (nat_cmp k e.0 ≡ Less) × (below_all nat_cmp y es ≡ true)
  past k y e es le h =
      let parts = and_parts (is_lt (nat_cmp y e.0)) (below_all nat_cmp y es) h in
      let above : y < e.0 = is_less y e.0 parts.0 in
      (less_is k e.0 (omega arith), parts.1)

  past_none : (k y : ℕ) (es : List (ℕ × X)) → k ≤ y → below_all nat_cmp y es ≡ true → find nat_cmp k es ≡ None
  past_none k y [] le h = refl
  past_none k y (e ∷ es) le h = rw (past k y e es le h).0 (past_none k y es le (past k y e es le h).1)

  past_kept : (k y : ℕ) (es : List (ℕ × X)) → k ≤ y → below_all nat_cmp y es ≡ true → where_key nat_cmp (other k) es ≡ es
  past_kept k y [] le h = refl
  past_kept k y (e ∷ es) le h = rw (past k y e es le h).0 (ap (λ r. e ∷ r) (past_kept k y es le (past k y e es le h).1))

  entry_here : (k : ℕ) (e : ℕ × X) (es : List (ℕ × X)) → k ≡ e.0 → below_all nat_cmp e.0 es ≡ true → IsEntry k (e ∷ es) 0
  entry_here k e es is h = record {
    within = omega arith;
    found = rw (equal_is k e.0 is) refl;
    there = ap Some (sym is);
    put_is = λ x. rw (equal_is k e.0 is) (ap (λ j. (j, x) ∷ es) (sym is));
    left = rw (equal_is k e.0 is) (past_kept k e.0 es (omega arith) h);
  }

  gap_here : (k : ℕ) (e : ℕ × X) (es : List (ℕ × X)) → k < e.0 → below_all nat_cmp e.0 es ≡ true → IsGap k (e ∷ es) 0
  gap_here k e es lt h = record {
    within = omega arith;
    none = rw (less_is k e.0 lt) (past_none k e.0 es (omega arith) h);
    put_is = λ x. rw (less_is k e.0 lt) refl;
    left = rw (less_is k e.0 lt) (ap (λ r. e ∷ r) (past_kept k e.0 es (omega arith) h));
  }

  entry_later : (k : ℕ) (e : ℕ × X) (es : List (ℕ × X)) (n : ℕ) → e.0 < k → IsEntry k es n → IsEntry k (e ∷ es) (suc n)
  entry_later k e es n lt h = record {
    within = omega (arith, h.within);
    found = rw (greater_is k e.0 lt) h.found;
    there = h.there;
    put_is = λ x. rw (greater_is k e.0 lt) (ap (λ r. e ∷ r) (h.put_is x));
    left = rw (greater_is k e.0 lt) (ap (λ r. e ∷ r) h.left);
  }

  gap_later : (k : ℕ) (e : ℕ × X) (es : List (ℕ × X)) (n : ℕ) → e.0 < k → IsGap k es n → IsGap k (e ∷ es) (suc n)
  gap_later k e es n lt h = record {
    within = omega (arith, h.within);
    none = rw (greater_is k e.0 lt) h.none;
    put_is = λ x. rw (greater_is k e.0 lt) (ap (λ r. e ∷ r) (h.put_is x));
    left = rw (greater_is k e.0 lt) (ap (λ r. e ∷ r) h.left);
  }

  seat_later : (k : ℕ) (e : ℕ × X) (es : List (ℕ × X)) → e.0 < k → (r : Result ℕ ℕ) → MatchResult r (IsEntry k es) (IsGap k es)
      → MatchResult (later r) (IsEntry k (e ∷ es)) (IsGap k (e ∷ es))
  seat_later k e es lt (Ok n) h = entry_later k e es n lt h
  seat_later k e es lt (Err n) h = gap_later k e es n lt h

  pub seat_is : (k : ℕ) (es : List (ℕ × X)) → is_sorted nat_cmp es ≡ true → MatchResult (seat k es) (IsEntry k es) (IsGap k es)
  seat_is k [] sorted = record { within = omega arith; none = refl; put_is = λ x. refl; left = refl }
  seat_is k (e ∷ es) sorted =
      let parts = and_parts (below_all nat_cmp e.0 es) (is_sorted nat_cmp es) sorted in
      by_ranked (k < e.0) (k ≡ e.0) (e.0 < k) (nat_cmp k e.0) (ranked k e.0 _ refl)
      (λ is p. rw is (gap_here k e es p parts.0)) (λ is p. rw is (entry_here k e es p parts.0))
      (λ is p. rw is (seat_later k e es p (seat k es) (seat_is k es parts.1)))

  -- entries before one with a lower index
  below_at : (y : ℕ) (es : List (ℕ × X)) (n : ℕ) (e : ℕ × X) → below_all nat_cmp y es ≡ true → slice_get es n ≡ Some e → y < e.0
  below_at y [] n e h there = absurd (none-some e there)
  below_at y (f ∷ es) zero e h there =
      let parts = and_parts (is_lt (nat_cmp y f.0)) (below_all nat_cmp y es) h in
      let is : f ≡ e = same_Some f e there in
      subst (λ (p : ℕ × X). y < p.0) is (is_less y f.0 parts.0)
  below_at y (f ∷ es) (suc n) e h there =
      below_at y es n e (and_parts (is_lt (nat_cmp y f.0)) (below_all nat_cmp y es) h).1 there

  -- the entry at a place is the index's
  pub seat_found : (k : ℕ) (es : List (ℕ × X)) (n : ℕ) (e : ℕ × X) → is_sorted nat_cmp es ≡ true → slice_get es n ≡ Some e → e.0 ≡ k
      → seat k es ≡ Ok n
  seat_found k [] n e sorted there is = absurd (none-some e there)
  seat_found k (f ∷ es) zero e sorted there is = rw (equal_is k f.0 (sym is ∙ ap (λ p. p.0) (sym (same_Some f e there)))) refl
  seat_found k (f ∷ es) (suc n) e sorted there is =
      let parts = and_parts (below_all nat_cmp f.0 es) (is_sorted nat_cmp es) sorted in
      let below : f.0 < e.0 = below_at f.0 es n e parts.0 there in
      rw (greater_is k f.0 (omega arith)) (ap later (seat_found k es n e parts.1 there is))

  -- the entry at a place is of a lower index, and those after it of higher ones
  pub seat_after : (k : ℕ) (es : List (ℕ × X)) (n : ℕ) (e : ℕ × X) → is_sorted nat_cmp es ≡ true → slice_get es n ≡ Some e → e.0 < k
      → seat k (drop (suc n) es) ≡ Err 0 → seat k es ≡ Err (suc n)
  seat_after k [] n e sorted there lt past = absurd (none-some e there)
  seat_after k (f ∷ es) zero e sorted there lt past =
      let is : f ≡ e = same_Some f e there in
      rw (greater_is k f.0 (subst (λ (p : ℕ × X). p.0 < k) (sym is) lt)) (ap later past)
  seat_after k (f ∷ es) (suc n) e sorted there lt past =
      let parts = and_parts (below_all nat_cmp f.0 es) (is_sorted nat_cmp es) sorted in
      let below : f.0 < e.0 = below_at f.0 es n e parts.0 there in
      rw (greater_is k f.0 (omega arith)) (ap later (seat_after k es n e parts.1 there lt past))
