-- Whatever a test decides on a list can be searched there, and a least set of its items can be listed.
use Rattle.eco_ids.proofs.Common.{◌≡◌, ℕ, zero, suc, Bool, true, false, ◌||◌, ◌⊎◌, ◌↔◌, List, [], ◌∷◌, length, IsTrue, IsFalse, is_eq, Ordering, Equal, sym}
use Rattle.eco_ids.proofs.Common.{refl, ap, ◌∙◌, subst, inl, inr, ⊎_elim, true≢false, arith, tied_itself, IsTotalOrder, IsAntisymmetric, is_le, common_steps}
use Rattle.eco_ids.proofs.Common.{root, next, Least, has_item, is_ascending, with_item}
use Rattle.eco_ids.proofs.Ascending.{ascending_with}
use Rattle.eco_ids.proofs.Facts.{equal_tie, or_parts, or_right}
use Rattle.eco_ids.proofs.SetLaws.{joins_with}

-- x is one of the list
abbrev pub In : {A : Type 0} → A → List A → Type 0
In x [] = ⊥
In x (y ∷ ys) = (y ≡ x) ⊎ In x ys

-- it holds, or it does not
abbrev pub Decided : Type 0 → Type 0
Decided P = P ⊎ (P → ⊥)

pub decide_bool : (b : Bool) → Decided (IsTrue b)
decide_bool true = inl refl
decide_bool false = inr (λ h. true≢false (sym h))

pub decide_false : (b : Bool) → Decided (IsFalse b)
decide_false true = inr true≢false
decide_false false = inl refl

pub decide_as : {P Q : Type 0} → (P → Q) → (Q → P) → Decided P → Decided Q
decide_as to from (inl p) = inl (to p)
decide_as to from (inr n) = inr (λ q. n (from q))

-- the second is asked only where the first holds
pub decide_then : {P Q : Type 0} → Decided P → (P → Decided Q) → Decided (P × Q)
decide_then (inl p) q = ⊎_elim (λ x. inl (p, x)) (λ n. inr (λ x. n x.1)) (q p)
decide_then (inr n) q = inr (λ x. n x.0)

pub decide_both : {P Q : Type 0} → Decided P → Decided Q → Decided (P × Q)
decide_both p q = decide_then p (λ _. q)

pub decide_either : {P Q : Type 0} → Decided P → Decided Q → Decided (P ⊎ Q)
decide_either (inl p) q = inl (inl p)
decide_either (inr n) (inl q) = inl (inr q)
decide_either (inr n) (inr m) = inr (⊎_elim n m)

pub decide_in : {A : Type 0} → ((x y : A) → Decided (x ≡ y)) → (x : A) (xs : List A) → Decided (In x xs)
decide_in same x [] = inr (λ h. h)
decide_in same x (y ∷ ys) = decide_either (same y x) (decide_in same x ys)

-- one that passes, and a shorter list with all the others
record Picked {A : Type 0} (P : A → Type 0) (xs : List A) : Type 0 where
  item : A
  among : In item xs
  passes : P item
  others : List A
  shorter : length xs ≡ suc (length others)
  left : (y : A) → In y xs → (item ≡ y) ⊎ In y others

module _ {A : Type 0} (P : A → Type 0) (test : (x : A) → Decided (P x)) where
  pick : (xs : List A) → Picked P xs ⊎ ((x : A) → In x xs → P x → ⊥)
  pick [] = inr (λ x h p. h)
  pick (x ∷ xs) = by (test x) (pick xs)
    where
      by : Decided (P x) → Picked P xs ⊎ ((y : A) → In y xs → P y → ⊥) → Picked P (x ∷ xs) ⊎ ((y : A) → In y (x ∷ xs) → P y → ⊥)
      by (inl p) rest = inl (record { item = x; among = inl refl; passes = p; others = xs; shorter = refl; left = λ y h. h })
      by (inr n) (inl k) = inl (record {
        item = k.item;
        among = inr k.among;
        passes = k.passes;
        others = x ∷ k.others;
        shorter = ap suc k.shorter;
        left = λ y. ⊎_elim (λ e. inr (inl e)) (λ h. ⊎_elim (λ e. inl e) (λ m. inr (inr m)) (k.left y h));
      })
      by (inr n) (inr none) = inr (λ y h p. ⊎_elim (λ e. n (subst P (sym e) p)) (λ m. none y m p) h)

  -- whether some item passes
  pub some_in : (xs : List A) → Decided ((x : A) × In x xs × P x)
  some_in xs = ⊎_elim (λ k. inl (k.item, k.among, k.passes)) (λ none. inr (λ s. none s.0 s.1 s.2)) (pick xs)

  -- whether some value passes, where all that pass are in a list
  pub some_of : (xs : List A) → ((x : A) → P x → In x xs) → Decided ((x : A) × P x)
  some_of xs all = decide_as (λ s. (s.0, s.2)) (λ s. (s.0, all s.0 s.1, s.1)) (some_in xs)

-- an item is one of the list
pub item_in : {K : Type 0} {R : K → K → Ordering} → IsAntisymmetric R → (xs : List K) (x : K) → IsTrue (has_item R xs x) → In x xs
item_in same [] x h = true≢false (sym h)
item_in {R = R} same (y ∷ ys) x h = ⊎_elim (λ e. inl (same y x (equal_tie _ e))) (λ m. inr (item_in same ys x m))
    (or_parts (is_eq (R y x)) (has_item R ys x) h)

-- the least of those that pass
pub record IsLeastOf {A : Type 0} (R : A → A → Ordering) (P : A → Type 0) (x : A) : Type 0 where
  pub passes : P x
  pub least : (y : A) → P y → IsTrue (is_le (R x y))

module _ {K : Type 0} {R : K → K → Ordering} (o : IsTotalOrder R) where
  le_itself : (x : K) → IsTrue (is_le (R x x))
  le_itself x = ap is_le (tied_itself o x)

  le_after : (x y z : K) → IsTrue (is_le (R x y)) → IsTrue (is_le (R y z)) → IsTrue (is_le (R x z))
  le_after x y z h k = grind (arith, common_steps)

  le_total : (x y : K) → IsTrue (is_le (R x y)) ⊎ IsTrue (is_le (R y x))
  le_total x y = grind (arith, common_steps)

  -- the least of a list that passes, or none does
  abbrev LeastIn : (K → Type 0) → List K → Type 0
  LeastIn P xs = ((x : K) × IsLeastOf R (λ y. In y xs × P y) x) ⊎ ((x : K) → In x xs → P x → ⊥)

  least_in : (P : K → Type 0) → ((x : K) → Decided (P x)) → (xs : List K) → LeastIn P xs
  least_in P test [] = inr (λ x h p. h)
  least_in P test (x ∷ xs) = by (test x) (least_in P test xs)
    where
      this : P x → ((y : K) → In y xs → P y → IsTrue (is_le (R x y))) → LeastIn P (x ∷ xs)
      this p below = inl (
        x,
        record {
          passes = (inl refl, p);
          least = λ y h. ⊎_elim (λ e. subst (λ z. IsTrue (is_le (R x z))) e (le_itself x)) (λ m. below y m h.1) h.0;
        },
      )

      that : (y : K) → IsLeastOf R (λ z. In z xs × P z) y → (P x → IsTrue (is_le (R y x))) → LeastIn P (x ∷ xs)
      that y k below = inl (
        y,
        record {
          passes = (inr k.passes.0, k.passes.1);
          least = λ z h. ⊎_elim (λ e. subst (λ u. IsTrue (is_le (R y u))) e (below (subst P (sym e) h.1))) (λ m. k.least z (m, h.1)) h.0;
        },
      )

      by : Decided (P x) → LeastIn P xs → LeastIn P (x ∷ xs)
      by (inl p) (inl k) = ⊎_elim (λ h. this p (λ y m q. le_after x k.0 y h (k.1.least y (m, q)))) (λ h. that k.0 k.1 (λ q. h)) (le_total x k.0)
      by (inl p) (inr none) = this p (λ y m q. absurd (none y m q))
      by (inr n) (inl k) = that k.0 k.1 (λ q. absurd (n q))
      by (inr n) (inr none) = inr (λ y h p. ⊎_elim (λ e. n (subst P (sym e) p)) (λ m. none y m p) h)

  -- the least that passes, where all that pass are in a list
  pub least_of : (P : K → Type 0) → ((x : K) → Decided (P x)) → (xs : List K) → ((x : K) → P x → In x xs)
      → ((x : K) × IsLeastOf R P x) ⊎ ((x : K) → P x → ⊥)
  least_of P test xs all =
      ⊎_elim (λ k. inl (k.0, record { passes = k.1.passes.1; least = λ y p. k.1.least y (all y p, p) }))
      (λ none. inr (λ x p. none x (all x p) p)) (least_in P test xs)

  -- the items of a list in their order, each once
  pub sorted : IsAntisymmetric R → (xs : List K) → (ys : List K) × IsTrue (is_ascending R ys) × ((x : K) → IsTrue (has_item R ys x) ↔ In x xs)
  sorted same [] = ([], refl, λ x. (λ h. true≢false (sym h), λ h. absurd h))
  sorted same (x ∷ xs) =
      let rest = sorted same xs in
      let joins : (y : K) → has_item R (with_item R rest.0 x) y ≡ (is_eq (R x y) || has_item R rest.0 y) = joins_with o rest.0 x in
      let tied : (y : K) → x ≡ y → R x y ≡ Equal = λ y e. subst (λ z. R x z ≡ Equal) e (tied_itself o x) in (
        with_item R rest.0 x,
        ascending_with o rest.0 x rest.1,
        λ y. (
          λ h. ⊎_elim (λ e. inl (same x y (equal_tie _ e))) (λ m. inr ((rest.2 y).0 m))
              (or_parts (is_eq (R x y)) (has_item R rest.0 y) (sym (joins y) ∙ h)),
          λ h. joins y ∙ ⊎_elim (λ e. ap (λ r. is_eq r || has_item R rest.0 y) (tied y e)) (λ m. or_right (is_eq (R x y)) _ ((rest.2 y).1 m)) h,
        ),
      )

-- a least set whose members lie in a list is a list: items are taken over as long as one is a root or is led to
module _
    {A : Type 0} (IsRoot : A → Type 0) (LeadsTo : A → A → Type 0) (is_root : (x : A) → Decided (IsRoot x))
    (leads_to : (x y : A) → Decided (LeadsTo x y)) (universe : List A) (inside : (x : A) → Least IsRoot LeadsTo x → In x universe) where
  abbrev Member : A → Type 0
  Member = Least IsRoot LeadsTo

  abbrev Follows : List A → A → Type 0
  Follows members x = IsRoot x ⊎ ((m : A) × In m members × LeadsTo m x)

  abbrev pub Listing : Type 0
  Listing = (members : List A) × ((x : A) → In x members ↔ Member x)

  -- these are members, and the other members are among n others
  record Growth (n : ℕ) (members others : List A) : Type 0 where
    size : length others ≡ n
    are : (x : A) → In x members → Member x
    cover : (x : A) → In x universe → In x members ⊎ In x others

  -- where none of the others follows, the members are all
  finish : (n : ℕ) (members others : List A) → Growth n members others → ((x : A) → In x others → Follows members x → ⊥) → Listing
  finish n members others g none = (members, λ x. (g.are x, all_taken))
    where
      all_taken : {x : A} → Member x → In x members
      all_taken {x = x} (root r) = ⊎_elim (λ h. h) (λ h. absurd (none x h (inl r))) (g.cover x (inside x (root r)))
      all_taken (next {a = a} {b = b} m l) = ⊎_elim (λ h. h) (λ h. absurd (none b h (inr (a, all_taken m, l)))) (g.cover b (inside b (next m l)))

  advance : (n : ℕ) (members others : List A) → Growth (suc n) members others → (k : Picked (Follows members) others)
      → Growth n (k.item ∷ members) k.others
  advance n members others g k =
      let shorter : length others ≡ suc (length k.others) = k.shorter in
      let size : length others ≡ suc n = g.size in
      let follows : Follows members k.item = k.passes in
      record {
        size = omega (arith, shorter, size);
        are = λ x. ⊎_elim (λ e. subst Member e (⊎_elim (λ r. root r) (λ s. next (g.are s.0 s.1) s.2) follows)) (g.are x);
        cover = λ x h. ⊎_elim (λ m. inl (inr m)) (λ m. ⊎_elim (λ e. inl (inl e)) (λ r. inr r) (k.left x m)) (g.cover x h);
      }

  picked : (members others : List A) → Picked (Follows members) others ⊎ ((x : A) → In x others → Follows members x → ⊥)
  picked members = pick (Follows members) (λ x. decide_either (is_root x) (some_in (λ m. LeadsTo m x) (λ m. leads_to m x) members))

  none_left : (others : List A) → length others ≡ zero → (x : A) → In x others → ⊥
  none_left [] size x h = h
  none_left (y ∷ ys) size x h = absurd (omega (arith, size))

  grow : (n : ℕ) (members others : List A) → Growth n members others → Listing
  grow zero members others g = finish zero members others g (λ x h f. none_left others g.size x h)
  grow (suc n) members others g =
      ⊎_elim (λ k. grow n (k.item ∷ members) k.others (advance n members others g k)) (finish (suc n) members others g) (picked members others)

  pub listed : Listing
  listed = grow (length universe) [] universe (record { size = refl; are = λ x h. absurd h; cover = λ x h. inr h })
