-- Draws that ascend over all pieces, from the number known on, are fresh.
use Rattle.eco_systems.proofs.Common.{◌≡◌, ℕ, zero, suc, ◌+◌, ◌<◌, ◌≤◌, not, ◌||◌, List, [], ◌∷◌, ◌++◌, length, refl, sym}
use Rattle.eco_systems.proofs.Common.{ap, ◌∙◌, subst, is_lt, true≢false, Less, IsTrue, inl, inr, arith, list_all, AllByRecursion, cases_eq}
use Rattle.eco_systems.proofs.Common.{list_all-append, off, Entity, entity_cmp, entity_eq, has_item, is_ascending, both, first, second, or_left, or_parts}
use Rattle.eco_systems.proofs.Common.{or_right, entity_eq_is, entity_eq_itself, joined, AreAscending, AreFresh, BatchDraws, all_drawn, fresh_entity, fresh_from}
use Rattle.std.specs.Cmp.{nat_cmp_is}
use Rattle.std.specs.Ordering.{nat_cmp, ordering_then}
use Rattle.eco_ids.specs.Layout.{is_distinct}
use Rattle.eco_ids.proofs.States.{same_parts}

abbrev IsIn : ℕ → ℕ → Entity → Type 0
IsIn a n e = (e.generation ≡ 0) × (a ≤ e.index) × (e.index < a + n)

listed : (a n : ℕ) (e : Entity) → IsTrue (has_item entity_cmp (fresh_from a n) e) → IsIn a n e
listed a zero e h = absurd (true≢false (sym h))
listed a (suc n) e h =
    elim (or_parts (entity_eq (fresh_entity a) e) (has_item entity_cmp (fresh_from (a + 1) n) e) h) as (λ _. IsIn a (suc n) e) [
      | inl k ↦
          let is : fresh_entity a ≡ e = entity_eq_is (fresh_entity a) e k in
          let at : a ≡ e.index = ap (λ x. x.index) is in
          (sym (ap (λ x. x.generation) is), omega (arith, at), omega (arith, at))
      | inr k ↦ let rest = listed (a + 1) n e k in let low = rest.1 in let high = rest.2 in (rest.0, omega (arith, low), omega (arith, high))
    ]

lists : (a n : ℕ) (e : Entity) → IsIn a n e → IsTrue (has_item entity_cmp (fresh_from a n) e)
lists a zero e h = let low = h.1 in let high = h.2 in absurd (omega (arith, low, high))
lists a (suc n) e h =
    elim (cases_eq e.index a) as (λ _. IsTrue (entity_eq (fresh_entity a) e || has_item entity_cmp (fresh_from (a + 1) n) e)) [
      | inl k ↦ or_left _ _ (subst (λ x. IsTrue (entity_eq (fresh_entity a) x)) (same_parts (fresh_entity a) e (sym k) (sym h.0))
          (entity_eq_itself (fresh_entity a)))
      | inr k ↦ let low = h.1 in let high = h.2 in or_right (entity_eq (fresh_entity a) e) _
          (lists (a + 1) n e (h.0, omega (arith, low, k), omega (arith, high)))
    ]

once : (a n : ℕ) → IsTrue (is_distinct (fresh_from a n))
once a zero = refl
once a (suc n) =
    both _ _ (ap not (off (has_item entity_cmp (fresh_from (a + 1) n) (fresh_entity a))
    (λ h. let low = (listed (a + 1) n (fresh_entity a) h).1 in absurd (omega (arith, low))))) (once (a + 1) n)

below : (a b : ℕ) → a < b → IsTrue (is_lt (entity_cmp (fresh_entity a) (fresh_entity b)))
below a b l = ap (λ r. is_lt (ordering_then r (nat_cmp 0 0))) (sym (nat_cmp_is a b Less l))

all_below : (c a n : ℕ) → c < a → IsTrue (list_all (λ y. is_lt (entity_cmp (fresh_entity c) y)) (fresh_from a n))
all_below c a zero l = refl
all_below c a (suc n) l = both _ _ (below c a l) (all_below c (a + 1) n (omega (arith, l)))

up : (a n : ℕ) → IsTrue (is_ascending entity_cmp (fresh_from a n))
up a zero = refl
up a (suc n) = both _ _ (all_below a (a + 1) n (omega arith)) (up (a + 1) n)

apart : (xs ys : List Entity) → IsTrue (is_ascending entity_cmp (xs ++ ys)) → IsTrue (is_ascending entity_cmp xs) × IsTrue (is_ascending entity_cmp ys)
apart [] ys h = (refl, h)
apart (x ∷ xs) ys h =
    let rest = apart xs ys (second (list_all (λ y. is_lt (entity_cmp x y)) (xs ++ ys)) _ h) in (
      both _ _ (first (list_all (λ y. is_lt (entity_cmp x y)) xs) _ (sym (list_all-append (λ y. is_lt (entity_cmp x y)) xs ys)
          ∙ first _ _ h)) rest.0,
      rest.1,
    )

each_up : (xss : List (List Entity)) → IsTrue (is_ascending entity_cmp (joined xss)) → AllByRecursion (λ d. IsTrue (is_ascending entity_cmp d)) xss
each_up [] h = tt
each_up (xs ∷ xss) h = let parts = apart xs (joined xss) h in (parts.0, each_up xss parts.1)

pub ascending_are_fresh : (known : ℕ) (draws : BatchDraws) → AreAscending known draws → AreFresh known draws
ascending_are_fresh known draws h = record {
  exact = λ e. (
    λ k. listed known (length (all_drawn draws)) e (subst (λ xs. IsTrue (has_item entity_cmp xs e)) h k),
    λ k. subst (λ xs. IsTrue (has_item entity_cmp xs e)) (sym h) (lists known (length (all_drawn draws)) e k),
  );
  once = subst (λ xs. IsTrue (is_distinct xs)) (sym h) (once known (length (all_drawn draws)));
  ascending = each_up (joined draws) (subst (λ xs. IsTrue (is_ascending entity_cmp xs)) (sym h) (up known (length (all_drawn draws))));
}

-- so many and then so many more
pub fresh_split : (a m n : ℕ) → fresh_from a (m + n) ≡ fresh_from a m ++ fresh_from (a + m) n
fresh_split a zero n = let e : a ≡ a + 0 = omega arith in let z : 0 + n ≡ n = omega arith in λ i. fresh_from (e i) (z i)
fresh_split a (suc m) n =
    let e : (a + 1) + m ≡ a + suc m = omega arith in
    let more : suc m + n ≡ suc (m + n) = omega arith in
    ap (fresh_from a) more ∙ ap (λ xs. fresh_entity a ∷ xs) (fresh_split (a + 1) m n ∙ ap (λ b. fresh_from (a + 1) m ++ fresh_from b n) e)

pub fresh_length : (a n : ℕ) → length (fresh_from a n) ≡ n
fresh_length a zero = refl
fresh_length a (suc n) = ap suc (fresh_length (a + 1) n)
