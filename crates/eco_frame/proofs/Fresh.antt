-- Batches of which each number from a base to below a limit is drawn once: as fresh handles, their draws are what frames ask of draws.
use Rattle.eco_frame.proofs.Common.{◌≡◌, ℕ, zero, suc, ◌+◌, ◌-◌, ◌<◌, ◌≤◌, min, Bool, true, not, cond, ◌&&◌, ◌||◌, eqb, ltb}
use Rattle.eco_frame.proofs.Common.{List, [], ◌∷◌, ◌++◌, length, map, IsTrue, is_eq, is_lt, refl, sym, ap, ◌∙◌, subst, arith, All}
use Rattle.eco_frame.proofs.Common.{AllByRecursion, concat, list_all, range_with_len, length-map, map-append, Entity, Command, IsInTurn, IsOutInTurn, IsBatch}
use Rattle.eco_frame.proofs.Common.{IsOut, joined, AreAscending, AreFresh, BatchDraws, all_drawn, fresh_entity, fresh_from}
use Rattle.std.specs.Ordering.{nat_cmp, ordering_then}
use Rattle.std.proofs.lemmas.Bool.Decides.{nat_tests}
use Rattle.std.proofs.lemmas.List.Elements.{All-cons, All-head, All-nil, All-tail}
use Rattle.eco_ids.specs.Layout.{is_distinct}
use Rattle.eco_ids.specs.Order.{entity_cmp, has_item, is_ascending}
use Rattle.eco_ids.proofs.Ascending.{both}
use Rattle.eco_ids.proofs.IdOrder.{entity_cmp_total, same_entity}
use Rattle.eco_ids.proofs.Members.{same_members}
use Rattle.eco_tickets.specs.Counting.{total, times, once, all_above, ascends}

-- numbers, each of which stands once

-- how many are below b
abbrev below : ℕ → List ℕ → ℕ
below b = total (λ (y : ℕ). cond (ltb y b) 1 0)

below_none : (xs : List ℕ) → below 0 xs ≡ 0
below_none [] = refl
below_none (x ∷ xs) = let h = below_none xs in grind (arith, nat_tests)

below_more : (b : ℕ) (xs : List ℕ) → below (suc b) xs ≡ below b xs + times b xs
below_more b [] = refl
below_more b (x ∷ xs) = let h = below_more b xs in grind (arith, nat_tests)

below_all : (b : ℕ) (xs : List ℕ) → ((x : ℕ) → b ≤ x → times x xs ≡ 0) → below b xs ≡ length xs
below_all b [] h = refl
below_all b (x ∷ xs) h =
    let rest : below b xs ≡ length xs = below_all b xs (λ y le. let k = h y le in omega arith) in
    low x b (times x xs) (below b xs) (length xs) (h x) rest
  where
    low : (x b t n m : ℕ) → (b ≤ x → cond (eqb x x) 1 0 + t ≡ 0) → n ≡ m → cond (ltb x b) 1 0 + n ≡ suc m
    low x b t n m h e = grind (arith, nat_tests)

module _ (base limit : ℕ) where
  counted : (xs : List ℕ) → ((x : ℕ) → times x xs ≡ once base limit x) → (b : ℕ) → below b xs ≡ min b limit - base
  counted xs h zero = let none = below_none xs in omega arith
  counted xs h (suc b) =
      let before = counted xs h b in
      let more = below_more b xs in
      let here = h b in
      next b (below b xs) (times b xs) (below (suc b) xs) before here more
    where
      next : (b n t m : ℕ) → n ≡ min b limit - base → t ≡ once base limit b → m ≡ n + t → m ≡ min (suc b) limit - base
      next b n t m before here more = grind (arith, nat_tests)

  length_is : (xs : List ℕ) → ((x : ℕ) → times x xs ≡ once base limit x) → length xs ≡ limit - base
  length_is xs h =
      let all = below_all limit xs (λ x le. h x ∙ past x le) in
      let count = counted xs h limit in
      omega arith
    where
      past : (x : ℕ) → limit ≤ x → once base limit x ≡ 0
      past x le = grind (arith, nat_tests)

-- the numbers in turn

times_range : (a n x : ℕ) → times x (range_with_len a n) ≡ once a (a + n) x
times_range a zero x = grind (arith, nat_tests)
times_range a (suc n) x = next a n x (times x (range_with_len (a + 1) n)) (times_range (a + 1) n x)
  where
    next : (a n x t : ℕ) → t ≡ once (a + 1) (a + 1 + n) x → cond (eqb a x) 1 0 + t ≡ once a (a + suc n) x
    next a n x t h = grind (arith, nat_tests)

range_above : (c a n : ℕ) → c < a → all_above c (range_with_len a n) ≡ true
range_above c a zero l = refl
range_above c a (suc n) l = let h : all_above c (range_with_len (a + 1) n) ≡ true = range_above c (a + 1) n (omega arith) in grind (arith, nat_tests)

range_up : (a n : ℕ) → ascends (range_with_len a n) ≡ true
range_up a zero = refl
range_up a (suc n) = both _ _ (range_above a (a + 1) n (omega arith)) (range_up (a + 1) n)

above_front : (x : ℕ) (xs ys : List ℕ) → all_above x (xs ++ ys) ≡ true → all_above x xs ≡ true
above_front x [] ys h = refl
above_front x (y ∷ xs) ys h = let r = above_front x xs ys in grind (arith, nat_tests)

front_up : (xs ys : List ℕ) → ascends (xs ++ ys) ≡ true → ascends xs ≡ true
front_up [] ys h = refl
front_up (x ∷ xs) ys h = let r = front_up xs ys in let s = above_front x xs ys in grind (arith, nat_tests)

back_up : (xs ys : List ℕ) → ascends (xs ++ ys) ≡ true → ascends ys ≡ true
back_up [] ys h = h
back_up (x ∷ xs) ys h = let r = back_up xs ys in grind (arith, nat_tests)

-- lists of which the numbers ascend one behind the other
pub parts_up : (own : List (List ℕ)) → ascends (concat own) ≡ true → All (λ (d : List ℕ). ascends d ≡ true) own
parts_up [] h = All-nil (λ (d : List ℕ). ascends d ≡ true)
parts_up (d ∷ own) h = All-cons (λ (d : List ℕ). ascends d ≡ true) d own (front_up d (concat own) h) (parts_up own (back_up d (concat own) h))

each_once : (own : List (List ℕ)) (base n : ℕ) → concat own ≡ range_with_len base n → (x : ℕ) → times x (concat own) ≡ once base (base + n) x
each_once own base n is x = ap (times x) is ∙ times_range base n x

-- what one worker records in turn is recorded as by workers
module _ {S : Type 0} (commands : S → List ℕ → List Command) (taken : S → List ℕ → ℕ) where
  pub as_batch : (workers base n : ℕ) (pieces : List S) (stage : List Command) (h : IsInTurn commands taken pieces base n stage)
      → IsBatch commands taken workers pieces base n h.stages
  as_batch workers base n pieces stage h =
      let up = ap ascends h.in_turn ∙ range_up base n in
      record { draws = h.draws; recorded = h.recorded; ascend = parts_up h.draws up; each = each_once h.draws base n h.in_turn; alone = λ one. up }

  pub as_out : (base limit : ℕ) (pieces : List S) → base ≤ limit → IsOutInTurn commands taken pieces base limit
      → IsOut commands taken pieces base limit
  as_out base limit pieces rises h =
      let end : base + (limit - base) ≡ limit = omega (arith, rises) in
      record {
        draws = h.draws;
        shares = h.shares;
        each = λ x. each_once h.draws base (limit - base) h.in_turn x ∙ ap (λ n. once base n x) end;
        short = h.short;
      }

-- numbers as fresh handles

has_fresh : (xs : List ℕ) (e : Entity) → has_item entity_cmp (map fresh_entity xs) e ≡ (eqb 0 e.generation && ltb 0 (times e.index xs))
has_fresh [] e = grind (arith, nat_tests)
has_fresh (x ∷ xs) e = here x e.index e.generation (times e.index xs) (has_item entity_cmp (map fresh_entity xs) e) (has_fresh xs e)
  where
    here : (x i g t : ℕ) (b : Bool) → b ≡ (eqb 0 g && ltb 0 t)
        → (is_eq (ordering_then (nat_cmp x i) (nat_cmp 0 g)) || b) ≡ (eqb 0 g && ltb 0 (cond (eqb x i) 1 0 + t))
    here x i g t b h = grind (arith, nat_tests)

above_fresh : (x : ℕ) (xs : List ℕ) → list_all (λ (y : Entity). is_lt (entity_cmp (fresh_entity x) y)) (map fresh_entity xs) ≡ all_above x xs
above_fresh x [] = refl
above_fresh x (y ∷ xs) = λ i. here x y i && above_fresh x xs i
  where
    here : (x y : ℕ) → is_lt (ordering_then (nat_cmp x y) (nat_cmp 0 0)) ≡ ltb x y
    here x y = grind (arith, nat_tests)

fresh_up : (xs : List ℕ) → is_ascending entity_cmp (map fresh_entity xs) ≡ ascends xs
fresh_up [] = refl
fresh_up (x ∷ xs) = λ i. above_fresh x xs i && fresh_up xs i

fresh_once : (xs : List ℕ) → ((x : ℕ) → times x xs ≤ 1) → IsTrue (is_distinct (map fresh_entity xs))
fresh_once [] h = refl
fresh_once (x ∷ xs) h =
    both _ _ (ap not (has_fresh xs (fresh_entity x)) ∙ alone x (times x xs) (h x)) (fresh_once xs (λ y. let k = h y in omega arith))
  where
    alone : (x t : ℕ) → cond (eqb x x) 1 0 + t ≤ 1 → not (eqb 0 0 && ltb 0 t) ≡ true
    alone x t h = grind (arith, nat_tests)

-- the draws of a batch

joined_fresh : (own : List (List ℕ)) → joined (map (map fresh_entity) own) ≡ map fresh_entity (concat own)
joined_fresh [] = refl
joined_fresh (d ∷ own) = ap (λ l. map fresh_entity d ++ l) (joined_fresh own) ∙ sym (map-append fresh_entity d (concat own))

each_up : (own : List (List ℕ)) → All (λ (d : List ℕ). ascends d ≡ true) own
    → AllByRecursion (λ d. IsTrue (is_ascending entity_cmp d)) (map (map fresh_entity) own)
each_up [] up = tt
each_up (d ∷ own) up =
    let P : List ℕ → Type 0 = λ d. ascends d ≡ true in
    (fresh_up d ∙ All-head P d own up, each_up own (All-tail P d own up))

-- each number from the base to below the limit was drawn once
pub fresh_until : (base limit : ℕ) (own : List (List ℕ)) (draws : BatchDraws)
    → joined draws ≡ map (map fresh_entity) own → All (λ (d : List ℕ). ascends d ≡ true) own
    → ((x : ℕ) → times x (concat own) ≡ once base limit x) → AreFresh base draws × (length (all_drawn draws) ≡ limit - base)
fresh_until base limit own draws shape up each =
    let xs = concat own in
    let is : all_drawn draws ≡ map fresh_entity xs = ap joined shape ∙ joined_fresh own in
    let count : length (all_drawn draws) ≡ limit - base = ap length is ∙ length-map xs fresh_entity ∙ length_is base limit xs each in
    let has : (e : Entity) → has_item entity_cmp (all_drawn draws) e ≡ (eqb 0 e.generation && ltb 0 (once base limit e.index)) =
    λ e. ap (λ l. has_item entity_cmp l e) is ∙ has_fresh xs e ∙ ap (λ t. eqb 0 e.generation && ltb 0 t) (each e.index) in (
      record {
        exact = λ e. (
          λ k. inside (length (all_drawn draws)) e.index e.generation count (sym (has e) ∙ k),
          λ k. has e ∙ listed (length (all_drawn draws)) e.index e.generation count k.0 k.1 k.2,
        );
        once = subst (λ l. IsTrue (is_distinct l)) (sym is) (fresh_once xs (λ x. let h = each x in one x (times x xs) h));
        ascending = subst (AllByRecursion (λ d. IsTrue (is_ascending entity_cmp d))) (sym shape) (each_up own up);
      },
      count,
    )
  where
    inside : (n i g : ℕ) → n ≡ limit - base → (eqb 0 g && ltb 0 (once base limit i)) ≡ true → (g ≡ 0) × (base ≤ i) × (i < base + n)
    inside n i g e h = (grind (arith, nat_tests), grind (arith, nat_tests), grind (arith, nat_tests))

    listed : (n i g : ℕ) → n ≡ limit - base → g ≡ 0 → base ≤ i → i < base + n → (eqb 0 g && ltb 0 (once base limit i)) ≡ true
    listed n i g e z low high = grind (arith, nat_tests)

    one : (x t : ℕ) → t ≡ once base limit x → t ≤ 1
    one x t h = grind (arith, nat_tests)

-- what is promised of each piece's draws makes them fresh
pub fresh_batch : (base n : ℕ) (own : List (List ℕ)) (draws : BatchDraws)
    → joined draws ≡ map (map fresh_entity) own → All (λ (d : List ℕ). ascends d ≡ true) own
    → ((x : ℕ) → times x (concat own) ≡ once base (base + n) x) → AreFresh base draws × (length (all_drawn draws) ≡ n)
fresh_batch base n own draws shape up each =
    let h = fresh_until base (base + n) own draws shape up each in
    let count = h.1 in
    (h.0, omega (arith, count))

-- and where they ascend over all pieces, they are the fresh handles in turn
pub ascending_batch : (base n : ℕ) (own : List (List ℕ)) (draws : BatchDraws)
    → joined draws ≡ map (map fresh_entity) own → ascends (concat own) ≡ true → ((x : ℕ) → times x (concat own) ≡ once base (base + n) x)
    → AreAscending base draws
ascending_batch base n own draws shape up each =
    let xs = concat own in
    let is : all_drawn draws ≡ map fresh_entity xs = ap joined shape ∙ joined_fresh own in
    let size : (base + n) - base ≡ n = omega arith in
    let count : length (all_drawn draws) ≡ n = ap length is ∙ length-map xs fresh_entity ∙ length_is base (base + n) xs each ∙ size in
    let has : (e : Entity) → has_item entity_cmp (map fresh_entity xs) e ≡ has_item entity_cmp (fresh_from base n) e = λ e.
    has_fresh xs e ∙ ap (λ t. eqb 0 e.generation && ltb 0 t) (each e.index ∙ sym (times_range base n e.index))
    ∙ sym (has_fresh (range_with_len base n) e) in
    is ∙ same_members entity_cmp_total same_entity (map fresh_entity xs) (fresh_from base n) (fresh_up xs ∙ up) (fresh_up (range_with_len base n)
    ∙ range_up base n)
    (λ e. (λ k. sym (has e) ∙ k, λ k. has e ∙ k))
    ∙ ap (fresh_from base) (sym count)
