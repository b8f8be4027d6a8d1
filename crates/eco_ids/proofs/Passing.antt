-- The living entities that pass a test, in a list of what is known of each index.
use Rattle.eco_ids.proofs.Common.{none-some, same_Some, subst}
use Rattle.eco_ids.proofs.Common.{◌≡◌, ℕ, zero, suc, ◌+◌, ◌<◌, Bool, true, false, cond, ◌⊎◌, List, [], ◌∷◌, map, IsTrue, slice_get, Some, filter, is_lt, Less}
use Rattle.eco_ids.proofs.Common.{sym, refl, ap, inl, inr, true≢false, arith, list_any, list_all, ordering_then, nat_cmp, nat_tests, common_steps, Entity}
use Rattle.eco_ids.proofs.Common.{Living, IndexState, Indexed, Free, Retired, living_from, has_item, entity_cmp, entity_eq, is_ascending}
use Rattle.eco_ids.specs.Indices.{record_of, living}
use Rattle.eco_ids.proofs.Ascending.{both}
use Rattle.eco_ids.proofs.Facts.{or_parts, or_right, or_left}
use Rattle.eco_ids.proofs.Overlaps.{entity_eq_is, entity_eq_itself}
use Rattle.eco_ids.proofs.States.{living_at, record_at}

abbrev pub handle : ℕ → ℕ → Entity
handle n g = record { index = n; generation = g }

-- a test of the living, by their handles and what is kept of them
module _ {A : Type 0} (t : Entity × A → Bool) where
  abbrev Found : ℕ → List (IndexState A) → Type 0
  Found n xs = (k : ℕ) × (g : ℕ) × (a : A) × (slice_get xs k ≡ Some (Living g a)) × IsTrue (t (handle (n + k) g, a))

  further : (n : ℕ) (x : IndexState A) (xs : List (IndexState A)) → Found (n + 1) xs → Found n (x ∷ xs)
  further n x xs p =
      let e : (n + 1) + p.0 ≡ n + suc p.0 = omega arith in
      (suc p.0, p.1, p.2, p.3, subst (λ m. IsTrue (t (handle m p.1, p.2))) e p.4)

  found_from : (n : ℕ) (xs : List (IndexState A)) → IsTrue (list_any t (living_from n xs)) → Found n xs
  found_from n [] h = absurd (true≢false (sym h))
  found_from n (Living g a ∷ xs) h =
      elim (or_parts (t (handle n g, a)) (list_any t (living_from (n + 1) xs)) h) as (λ _. Found n (Living g a ∷ xs)) [
        | inl is ↦ (0, g, a, refl, let e : n ≡ n + 0 = omega arith in subst (λ m. IsTrue (t (handle m g, a))) e is)
        | inr more ↦ further n (Living g a) xs (found_from (n + 1) xs more)
      ]
  found_from n (x ∷ xs) h = further n x xs (found_from (n + 1) xs h)

  passing_from : (n : ℕ) (xs : List (IndexState A)) (k g : ℕ) (a : A) → slice_get xs k ≡ Some (Living g a) → IsTrue (t (handle (n + k) g, a)) →
      IsTrue (list_any t (living_from n xs))
  passing_from n [] k g a at h = absurd (none-some (Living g a) at)
  passing_from n (x ∷ xs) zero g a at h =
      let e : n + 0 ≡ n = omega arith in
      subst (λ y. IsTrue (list_any t (living_from n (y ∷ xs)))) (sym (same_Some x (Living g a) at))
      (or_left (t (handle n g, a)) (list_any t (living_from (n + 1) xs)) (subst (λ m. IsTrue (t (handle m g, a))) e h))
  passing_from n (x ∷ xs) (suc k) g a at h = past x (passing_from (n + 1) xs k g a at (let e : n + suc k ≡ (n + 1) + k = omega arith in
      subst (λ m. IsTrue (t (handle m g, a))) e h))
    where
      past : (y : IndexState A) → IsTrue (list_any t (living_from (n + 1) xs)) → IsTrue (list_any t (living_from n (y ∷ xs)))
      past (Living f d) p = or_right (t (handle n f, d)) _ p
      past y p = p

  pub living_found : (w : Indexed A) → IsTrue (list_any t (living w)) → (e : Entity) × (a : A) × (record_of w e ≡ Some a) × IsTrue (t (e, a))
  living_found w h =
      let p = found_from 0 w.indices h in
      let e : 0 + p.0 ≡ p.0 = omega arith in
      (handle p.0 p.1, p.2, record_at w (handle p.0 p.1) p.2 p.3, subst (λ m. IsTrue (t (handle m p.1, p.2))) e p.4)

  pub found_living : (w : Indexed A) (e : Entity) (a : A) → record_of w e ≡ Some a → IsTrue (t (e, a)) → IsTrue (list_any t (living w))
  found_living w e a at h =
      let i : e.index ≡ 0 + e.index = omega arith in
      passing_from 0 w.indices e.index e.generation a (living_at w e a at) (subst (λ m. IsTrue (t (handle m e.generation, a))) i h)

-- a test of what is kept alone
module _ {A : Type 0} (test : A → Bool) where
  -- those who pass, ascending
  abbrev pub passed_from : ℕ → List (IndexState A) → List Entity
  passed_from n xs = map (λ (p : Entity × A). p.0) (filter (λ (p : Entity × A). test p.1) (living_from n xs))

  here_or_later : (n g : ℕ) (a : A) (xs : List (IndexState A)) (e : Entity) (b : Bool) → test a ≡ b
      → IsTrue (has_item entity_cmp
      (map (λ (p : Entity × A). p.0)
      (cond b ((record { index = n; generation = g }, a) ∷ filter (λ (p : Entity × A). test p.1) (living_from (n + 1) xs))
      (filter (λ (p : Entity × A). test p.1) (living_from (n + 1) xs)))) e)
      → ((record { index = n; generation = g } ≡ e) × (test a ≡ true)) ⊎ IsTrue (has_item entity_cmp (passed_from (n + 1) xs) e)
  here_or_later n g a xs e true is h =
      grind (arith, common_steps, or_parts, entity_eq_is)
  here_or_later n g a xs e false is h = inr h

  -- who is among them stands at its index, and passes
  abbrev pub PassesAt : List (IndexState A) → ℕ → Entity → Type 0
  PassesAt xs n e = (k : ℕ) × (a : A) × (e.index ≡ n + k) × (slice_get xs k ≡ Some (Living e.generation a)) × (test a ≡ true)

  one_more : (x : IndexState A) (xs : List (IndexState A)) (n : ℕ) (e : Entity) → PassesAt xs (n + 1) e → PassesAt (x ∷ xs) n e
  one_more x xs n e p = (suc p.0, p.1, omega (arith, p.2), p.3, p.4)

  pub among_passed : (n : ℕ) (xs : List (IndexState A)) (e : Entity) → IsTrue (has_item entity_cmp (passed_from n xs) e) → PassesAt xs n e
  among_passed n [] e h = absurd (true≢false (sym h))
  among_passed n (Living g a ∷ xs) e h =
      elim (here_or_later n g a xs e (test a) refl h) as (λ _. PassesAt (Living g a ∷ xs) n e) [
        | inl p ↦ (
          0,
          a,
          let at : n ≡ e.index = ap (λ (x : Entity). x.index) p.0 in omega (arith, at),
          ap (λ (x : Entity). Some (Living x.generation a)) p.0,
          p.1,
        )
        | inr more ↦ one_more (Living g a) xs n e (among_passed (n + 1) xs e more)
      ]
  among_passed n (x ∷ xs) e h = one_more x xs n e (among_passed (n + 1) xs e h)

  pub passed_among : (n : ℕ) (xs : List (IndexState A)) (k g : ℕ) (a : A) → slice_get xs k ≡ Some (Living g a) → test a ≡ true
      → (e : Entity) → e.index ≡ n + k → e.generation ≡ g → IsTrue (has_item entity_cmp (passed_from n xs) e)
  passed_among n [] k g a at h e i s = absurd (cc)
  passed_among n (Retired ∷ xs) zero g a at h e i s = absurd (cc)
  passed_among n (Retired ∷ xs) (suc k) g a at h e i s = passed_among (n + 1) xs k g a at h e (omega (arith, i)) s
  passed_among n (Free f ∷ xs) zero g a at h e i s = absurd (cc)
  passed_among n (Free f ∷ xs) (suc k) g a at h e i s = passed_among (n + 1) xs k g a at h e (omega (arith, i)) s
  passed_among n (Living f b ∷ xs) zero g a at h e i s =
      grind (arith, common_steps, or_left, entity_eq_itself)
  passed_among n (Living f b ∷ xs) (suc k) g a at h e i s = by (passed_among (n + 1) xs k g a at h e (omega (arith, i)) s) (test b)
    where
      by : IsTrue (has_item entity_cmp (passed_from (n + 1) xs) e) → (c : Bool) →
          IsTrue (has_item entity_cmp
          (map (λ (p : Entity × A). p.0)
          (cond c ((record { index = n; generation = f }, b) ∷ filter (λ (p : Entity × A). test p.1) (living_from (n + 1) xs))
          (filter (λ (p : Entity × A). test p.1) (living_from (n + 1) xs)))) e)
      by rest true = or_right (entity_eq (record { index = n; generation = f }) e) _ rest
      by rest false = rest

  index_below : (i j g h : ℕ) → i < j → is_lt (entity_cmp (record { index = i; generation = g }) (record { index = j; generation = h })) ≡ true
  index_below i j g h below = let first : nat_cmp i j ≡ Less = grind (arith, nat_tests) in ap (λ r. is_lt (ordering_then r (nat_cmp g h))) first

  above_all : (n m g : ℕ) (xs : List (IndexState A)) → n < m →
      IsTrue (list_all (λ y. is_lt (entity_cmp (record { index = n; generation = g }) y)) (passed_from m xs))
  above_all n m g [] below = refl
  above_all n m g (Living f a ∷ xs) below = by (above_all n (m + 1) g xs (omega arith)) (test a)
    where
      by : IsTrue (list_all (λ y. is_lt (entity_cmp (record { index = n; generation = g }) y)) (passed_from (m + 1) xs)) → (c : Bool) →
          IsTrue (list_all (λ y. is_lt (entity_cmp (record { index = n; generation = g }) y))
          (map (λ (p : Entity × A). p.0)
          (cond c ((record { index = m; generation = f }, a) ∷ filter (λ (p : Entity × A). test p.1) (living_from (m + 1) xs))
          (filter (λ (p : Entity × A). test p.1) (living_from (m + 1) xs)))))
      by rest true = both _ _ (index_below n m g f below) rest
      by rest false = rest
  above_all n m g (x ∷ xs) below = above_all n (m + 1) g xs (omega arith)

  pub passed_ascend : (n : ℕ) (xs : List (IndexState A)) → IsTrue (is_ascending entity_cmp (passed_from n xs))
  passed_ascend n [] = refl
  passed_ascend n (Living f a ∷ xs) = by (passed_ascend (n + 1) xs) (test a)
    where
      by : IsTrue (is_ascending entity_cmp (passed_from (n + 1) xs)) → (c : Bool) →
          IsTrue (is_ascending entity_cmp
          (map (λ (p : Entity × A). p.0)
          (cond c ((record { index = n; generation = f }, a) ∷ filter (λ (p : Entity × A). test p.1) (living_from (n + 1) xs))
          (filter (λ (p : Entity × A). test p.1) (living_from (n + 1) xs)))))
      by rest true = both _ _ (above_all n (n + 1) f xs (omega arith)) rest
      by rest false = rest
  passed_ascend n (x ∷ xs) = passed_ascend (n + 1) xs

  -- ---- by handle

  -- the entity lives, and passes
  abbrev pub PassesOwn : Indexed A → Entity → Type 0
  PassesOwn w e = (a : A) × (record_of w e ≡ Some a) × (test a ≡ true)

  pub some_passes : (w : Indexed A) → list_any (λ (p : Entity × A). test p.1) (living w) ≡ true → (e : Entity) × PassesOwn w e
  some_passes w h = let p = living_found (λ (p : Entity × A). test p.1) w h in (p.0, (p.1, p.2, p.3))

  pub passes_some : (w : Indexed A) (e : Entity) → PassesOwn w e → list_any (λ (p : Entity × A). test p.1) (living w) ≡ true
  passes_some w e p = found_living (λ (p : Entity × A). test p.1) w e p.0 p.1 p.2

  pub own_from_passed : (w : Indexed A) (e : Entity) → IsTrue (has_item entity_cmp (passed_from 0 w.indices) e) → PassesOwn w e
  own_from_passed w e h =
      grind (arith, common_steps, among_passed, record_at)

  pub passed_from_own : (w : Indexed A) (e : Entity) → PassesOwn w e → IsTrue (has_item entity_cmp (passed_from 0 w.indices) e)
  passed_from_own w e p = passed_among 0 w.indices e.index e.generation p.0 (living_at w e p.0 p.1) p.2 e (omega arith) refl
