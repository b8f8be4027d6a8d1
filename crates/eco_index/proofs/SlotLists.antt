-- Lists of slots whose places are kept.
use Rattle.eco_index.proofs.Common.{◌≡◌, ℕ, zero, suc, ◌+◌, ◌<◌, Bool, true, false, cond, ◌||◌, nat_eq, List, [], ◌∷◌}
use Rattle.eco_index.proofs.Common.{◌++◌, ◌&&◌, ◌-◌, length, get_or, refl, sym, ap, ◌∙◌, arith, list_any, AllByRecursion, Decides-eqb}
use Rattle.eco_index.proofs.Common.{true≢false, ◌≢◌, set, inl, inr, cases_lt, length-set}
use Rattle.std.proofs.lemmas.Grind.{get_or_default_zero}
use Rattle.std.proofs.lemmas.List.{get_or-set_other, get_or-set_same, get_or_append_left, get_or_push, length_push}
use Rattle.std.proofs.lemmas.List.Folds.{list_any-append, list_any_at, list_any_more}
use Rattle.eco_index.proofs.Common.{if◌then◌else◌, take, ◌≤◌}
use Rattle.eco_ids.proofs.Lists.{get_or-swap_remove, length-swap_remove}
use Rattle.eco_index.proofs.Keys.{or_false}
use Rattle.eco_index.specs.SlotList.{KeepsPlaces, LeadToPlaces}
use Rattle.std.specs.List.{IsDistinct, swap_remove}
use Rattle.std.specs.List.Sorted.{IsPermutation}
use Rattle.std.proofs.lemmas.List.Sorted.{IsPermutation-swap_remove, list_any-IsPermutation}
use Rattle.std.proofs.lemmas.Map.Keys.{IsDistinct-IsPermutation, IsDistinct-head}

-- what leads to a later place is another slot
others : (at : ℕ → ℕ) (x k : ℕ) (ys : List ℕ) → at x ≡ k → ((i : ℕ) → i < length ys → k < at (get_or ys i 0))
    → AllByRecursion (λ y. nat_eq x y ≡ false) ys
others at x k [] is later = tt
others at x k (y ∷ ys) is later = (by (nat_eq x y) refl, others at x k ys is (λ i within. later (suc i) (omega arith)))
  where
    by : (b : Bool) → nat_eq x y ≡ b → b ≡ false
    by true same =
        let after : k < at y = later zero (omega arith) in
        let there : at y ≡ k = ap at (sym ((Decides-eqb x y).0 same)) ∙ is in
        absurd (omega arith)
    by false same = refl

-- slots that lead to their places are each there once
pub distinct_from : (at : ℕ → ℕ) (k : ℕ) (xs : List ℕ) → ((i : ℕ) → i < length xs → at (get_or xs i 0) ≡ k + i) → IsDistinct nat_eq xs
unfolding IsDistinct
distinct_from at k [] is = tt
distinct_from at k (x ∷ xs) is = (
  others at x k xs (is zero (omega arith) ∙ omega arith) (λ i within. let there = is (suc i) (omega arith) in omega arith),
  distinct_from at (suc k) xs (λ i within. is (suc i) (omega arith) ∙ omega arith),
)

flips : (a b : ℕ) → nat_eq a b ≡ nat_eq b a
flips a b = by (nat_eq a b) (nat_eq b a) refl refl
  where
    by : (p q : Bool) → nat_eq a b ≡ p → nat_eq b a ≡ q → p ≡ q
    by true true s t = refl
    by false false s t = refl
    by true false s t = sym ((Decides-eqb b a).1 (sym ((Decides-eqb a b).0 s))) ∙ t
    by false true s t = sym s ∙ (Decides-eqb a b).1 (sym ((Decides-eqb b a).0 t))

none_other : (x : ℕ) (ys : List ℕ) → AllByRecursion (λ y. nat_eq x y ≡ false) ys → list_any (nat_eq x) ys ≡ false
none_other x [] none = refl
none_other x (y ∷ ys) none = ap (λ b. b || list_any (nat_eq x) ys) none.0 ∙ none_other x ys none.1

-- the slot that is taken is gone, and no other
pub taken : (xs : List ℕ) (i x : ℕ) → i < length xs → x ≡ get_or xs i x → IsDistinct nat_eq xs
    → (n : ℕ) → list_any (nat_eq n) (swap_remove xs i x) ≡ cond (nat_eq x n) false (list_any (nat_eq n) xs)
taken xs i x within is distinct n = by (nat_eq x n) refl
  where
    moved : IsPermutation xs (x ∷ swap_remove xs i x)
    moved = IsPermutation-swap_remove xs i x within is

    by : (b : Bool) → nat_eq x n ≡ b → list_any (nat_eq n) (swap_remove xs i x) ≡ cond b false (list_any (nat_eq n) xs)
    by true same =
        ap (λ m. list_any (nat_eq m) (swap_remove xs i x)) (sym ((Decides-eqb x n).0 same))
        ∙ none_other x (swap_remove xs i x)
        (IsDistinct-head nat_eq x (swap_remove xs i x) (IsDistinct-IsPermutation nat_eq flips xs (x ∷ swap_remove xs i x) moved distinct))
    by false same =
        sym (list_any-IsPermutation (nat_eq n) xs (x ∷ swap_remove xs i x) moved
        ∙ ap (λ b. b || list_any (nat_eq n) (swap_remove xs i x)) (flips n x ∙ same))

-- a slot that is there has a place
stands : (xs : List ℕ) (slot : ℕ) → list_any (nat_eq slot) xs ≡ true → (i : ℕ) × (i < length xs) × (get_or xs i 0 ≡ slot)
stands [] slot is = absurd (true≢false (sym is))
stands (x ∷ xs) slot is = by (nat_eq slot x) refl (stands xs slot)
  where
    by : (b : Bool) → nat_eq slot x ≡ b → (list_any (nat_eq slot) xs ≡ true → (i : ℕ) × (i < length xs) × (get_or xs i 0 ≡ slot))
        → (i : ℕ) × (i < length (x ∷ xs)) × (get_or (x ∷ xs) i 0 ≡ slot)
    by true same later = (zero, omega arith, sym ((Decides-eqb slot x).0 same))
    by false apart later =
        let there = later (sym (ap (λ b. b || list_any (nat_eq slot) xs) apart) ∙ is) in
        (suc there.0, omega (arith, there.1), there.2)

-- a slot that is at no place is not there
pub absent : (xs : List ℕ) (slot place : ℕ) → ((i : ℕ) → i < length xs → get_or xs i 0 ≡ slot → place ≡ i)
    → ((place < length xs) × (get_or xs place 0 ≡ slot) → ⊥) → list_any (nat_eq slot) xs ≡ false
absent xs slot place leads not = by (list_any (nat_eq slot) xs) refl
  where
    by : (b : Bool) → list_any (nat_eq slot) xs ≡ b → b ≡ false
    by false is = refl
    by true is =
        let at = stands xs slot is in
        let there : place ≡ at.0 = leads at.0 at.1 at.2 in
        absurd (not (rw there (at.1, at.2)))

-- slots with their places are each there once
pub placed_distinct : (first : ℕ) (xs ps : List ℕ) → LeadToPlaces first xs ps → IsDistinct nat_eq xs
placed_distinct first xs ps placed = distinct_from (λ s. get_or ps (s - first) 0) 0 xs (λ i within. (placed i within).2 ∙ omega arith)

-- the slot that is taken from its place is gone, and no other
pub taken_at : (first : ℕ) (xs ps : List ℕ) → LeadToPlaces first xs ps → (i x : ℕ) (ys : List ℕ) → i < length xs
    → x ≡ get_or xs i x → ys ≡ swap_remove xs i x
    → (n : ℕ) → list_any (nat_eq n) ys ≡ cond (nat_eq (get_or xs i 0) n) false (list_any (nat_eq n) xs)
taken_at first xs ps placed i x ys within is left n =
    let own : x ≡ get_or xs i 0 = is ∙ get_or_default_zero xs i x within in
    ap (list_any (nat_eq n)) left ∙ taken xs i x within is (placed_distinct first xs ps placed) n
    ∙ ap (λ s. cond (nat_eq s n) false (list_any (nat_eq n) xs)) own

-- where all that is left has a table, and nothing with one is gone, just those without are gone
pub swept : (has : ℕ → Bool) (xs ys : List ℕ) → ((n : ℕ) → has n ≡ true → list_any (nat_eq n) ys ≡ list_any (nat_eq n) xs)
    → ((i : ℕ) → i < length ys → has (get_or ys i 0) ≡ true) → (n : ℕ) → list_any (nat_eq n) ys ≡ (list_any (nat_eq n) xs && has n)
swept has xs ys same there n = by (has n) (list_any (nat_eq n) ys) (list_any (nat_eq n) xs) refl refl refl
  where
    by : (h b c : Bool) → has n ≡ h → list_any (nat_eq n) ys ≡ b → list_any (nat_eq n) xs ≡ c → b ≡ (c && h)
    by true b true hn yb xc = sym yb ∙ same n hn ∙ xc
    by true b false hn yb xc = sym yb ∙ same n hn ∙ xc
    by false false true hn yb xc = refl
    by false false false hn yb xc = refl
    by false true c hn yb xc =
        let at = stands ys n yb in
        absurd (true≢false (sym (there at.0 at.1) ∙ ap has at.2 ∙ hn))

-- a slot that is put into a set comes to the others
pub inserted : (ks : List ℕ) (k n : ℕ)
    → list_any (nat_eq n) (if list_any (nat_eq k) ks then ks else ks ++ k ∷ []) ≡ (list_any (nat_eq n) ks || nat_eq n k)
inserted ks k n = by (list_any (nat_eq k) ks) (nat_eq n k) refl refl
  where
    by : (c b : Bool) → list_any (nat_eq k) ks ≡ c → nat_eq n k ≡ b
        → list_any (nat_eq n) (if c then ks else ks ++ k ∷ []) ≡ (list_any (nat_eq n) ks || b)
    by true false there other = sym (or_false (list_any (nat_eq n) ks))
    by true true there same =
        let own : list_any (nat_eq n) ks ≡ true = ap (λ m. list_any (nat_eq m) ks) ((Decides-eqb n k).0 same) ∙ there in
        own ∙ sym (ap (λ b. b || true) own)
    by false b absent is =
        list_any-append (nat_eq n) ks (k ∷ []) ∙ ap (λ c. list_any (nat_eq n) ks || c) (or_false (nat_eq n k) ∙ is)

-- one more slot is put into the set of those before it
pub inserted_next : (ks ns slots : List ℕ) (i x d : ℕ) → i < length slots → get_or slots i d ≡ x
    → ns ≡ (if list_any (nat_eq x) ks then ks else ks ++ x ∷ []) → ((n : ℕ) → list_any (nat_eq n) ks ≡ list_any (nat_eq n) (take i slots))
    → (n : ℕ) → list_any (nat_eq n) ns ≡ list_any (nat_eq n) (take (i + 1) slots)
inserted_next ks ns slots i x d within here is before n =
    ap (list_any (nat_eq n)) is ∙ inserted ks x n ∙ ap (λ b. b || nat_eq n x) (before n)
    ∙ ap (λ y. list_any (nat_eq n) (take i slots) || nat_eq n y) (sym here)
    ∙ sym (list_any_more (nat_eq n) slots i d within)

-- more places lead as those before them
pub covered : (first : ℕ) (xs ps qs : List ℕ) → LeadToPlaces first xs ps → KeepsPlaces ps qs → LeadToPlaces first xs qs
covered first xs ps qs placed keeps i within =
    let (least, there, leads) = placed i within in
    let (stays, same) = keeps _ there in
    (least, stays, same ∙ leads)

-- a slot that comes last has its place noted, which was no other's
pub offered : (first : ℕ) (xs ps : List ℕ) (slot away : ℕ) → LeadToPlaces first xs ps → list_any (nat_eq slot) xs ≡ false → slot ≡ first + away
    → away < length ps → LeadToPlaces first (xs ++ slot ∷ []) (set ps away (length xs))
offered first xs ps slot away placed new is noted i within = elim (cases_lt i (length xs)) [
  | inl before ↦
      let (least, there, leads) = placed i before in
      let apart : get_or xs i 0 - first ≢ away = λ e.
      let same : slot ≡ get_or xs i 0 = omega arith in
      absurd (true≢false (sym (list_any_at (nat_eq slot) xs i 0 before ((Decides-eqb slot (get_or xs i 0)).1 same)) ∙ new)) in
      rw (get_or_append_left xs (slot ∷ []) 0 i before)
      (least, rw (length-set ps away (length xs)) there, get_or-set_other ps away (get_or xs i 0 - first) (length xs) 0 apart ∙ leads)
  | inr past ↦
      let last : length xs ≡ i = omega (arith, length_push xs slot) in
      let own : slot - first ≡ away = omega arith in
      rw (get_or_push xs slot 0 i last, own)
      (omega arith, rw (length-set ps away (length xs)) noted, get_or-set_same ps away (length xs) 0 noted ∙ last)
]

-- the last slot, where it comes in the place of one that went, leads to its place
pub came : (first : ℕ) (xs ps : List ℕ) → LeadToPlaces first xs ps → (i x y : ℕ) (ys : List ℕ) → i < length xs → ys ≡ swap_remove xs i x
    → i < length ys → y ≡ get_or ys i y → (first ≤ y) × (y - first < length ps)
came first xs ps placed i x y ys within left there is =
    let fewer : length ys ≡ length xs - 1 = ap length left ∙ length-swap_remove xs i x in
    let last : y ≡ get_or xs (length xs - 1) 0 =
    is ∙ ap (λ l. get_or l i y) left ∙ get_or-swap_remove xs i i x y within (omega arith)
    ∙ ap (λ b. get_or xs (cond b (length xs - 1) i) y) ((Decides-eqb i i).1 refl) ∙ get_or_default_zero xs (length xs - 1) y (omega arith) in
    let (least, noted, leads) = placed (length xs - 1) (omega arith) in
    rw last (least, noted)
