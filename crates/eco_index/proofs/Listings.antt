-- Lists of slots, each once.
use Rattle.eco_index.proofs.Common.{◌≡◌, ℕ, zero, suc, ◌<◌, Bool, true, false, true≢false, cond, ◌||◌, nat_eq, List, [], ◌∷◌, ◌++◌}
use Rattle.eco_index.proofs.Common.{filter, length, get_or, refl, sym, ap, ◌∙◌, arith, list_any, AllByRecursion, Decides-eqb}
use Rattle.std.specs.List.{IsDistinct}
use Rattle.eco_ids.proofs.Facts.{or_left, or_right}

-- what passes a test passes a weaker one
pub any_weaker : {X : Type 0} (p q : X → Bool) → ((x : X) → p x ≡ true → q x ≡ true) → (xs : List X) → list_any p xs ≡ true → list_any q xs ≡ true
any_weaker p q weaker [] h = h
any_weaker p q weaker (x ∷ xs) h = by (p x) refl (any_weaker p q weaker xs) h
  where
    by : (b : Bool) → p x ≡ b → (list_any p xs ≡ true → list_any q xs ≡ true) → (b || list_any p xs) ≡ true → (q x || list_any q xs) ≡ true
    by true is later h = or_left (q x) (list_any q xs) (weaker x is)
    by false is later h = or_right (q x) (list_any q xs) (later h)

-- ---- lists of slots

pub all_filtered : {X : Type 0} (P : X → Type 0) (p : X → Bool) (xs : List X) → AllByRecursion P xs → AllByRecursion P (filter p xs)
all_filtered P p [] all = all
all_filtered P p (x ∷ xs) all = by (p x) (all_filtered P p xs all.1)
  where
    by : (b : Bool) → AllByRecursion P (filter p xs) → AllByRecursion P (cond b (x ∷ filter p xs) (filter p xs))
    by true rest = (all.0, rest)
    by false rest = rest

pub distinct_filtered : (p : ℕ → Bool) (xs : List ℕ) → IsDistinct nat_eq xs → IsDistinct nat_eq (filter p xs)
unfolding IsDistinct
distinct_filtered p [] h = h
distinct_filtered p (x ∷ xs) h = by (p x) (distinct_filtered p xs h.1)
  where
    by : (b : Bool) → IsDistinct nat_eq (filter p xs) → IsDistinct nat_eq (cond b (x ∷ filter p xs) (filter p xs))
    by true rest = (all_filtered (λ y. nat_eq x y ≡ false) p xs h.0, rest)
    by false rest = rest

pub distinct_none : IsDistinct nat_eq []
unfolding IsDistinct
distinct_none = tt

pub distinct_one : (x : ℕ) → IsDistinct nat_eq (x ∷ [])
unfolding IsDistinct
distinct_one x = (tt, tt)

neither : (a b : Bool) → (a || b) ≡ false → (a ≡ false) × (b ≡ false)
neither true b h = absurd (true≢false h)
neither false b h = (refl, h)

all_others : (x : ℕ) (ys : List ℕ) → list_any (nat_eq x) ys ≡ false → AllByRecursion (λ z. nat_eq x z ≡ false) ys
all_others x [] h = tt
all_others x (y ∷ ys) h = let parts = neither (nat_eq x y) (list_any (nat_eq x) ys) h in (parts.0, all_others x ys parts.1)

all_joined : {X : Type 0} (P : X → Type 0) (xs ys : List X) → AllByRecursion P xs → AllByRecursion P ys → AllByRecursion P (xs ++ ys)
all_joined P [] ys a b = b
all_joined P (x ∷ xs) ys a b = (a.0, all_joined P xs ys a.1 b)

-- two lists that share no slot
pub distinct_joined : (xs ys : List ℕ) → IsDistinct nat_eq xs → IsDistinct nat_eq ys
    → ((n : ℕ) → list_any (nat_eq n) ys ≡ true → list_any (nat_eq n) xs ≡ false) → IsDistinct nat_eq (xs ++ ys)
unfolding IsDistinct
distinct_joined [] ys a b apart = b
distinct_joined (x ∷ xs) ys a b apart = (
  all_joined (λ z. nat_eq x z ≡ false) xs ys a.0 (all_others x ys (by (list_any (nat_eq x) ys) refl)),
  distinct_joined xs ys a.1 b (λ n h. (neither (nat_eq n x) (list_any (nat_eq n) xs) (apart n h)).1),
)
  where
    by : (b : Bool) → list_any (nat_eq x) ys ≡ b → b ≡ false
    by true h = absurd (true≢false (sym ((Decides-eqb x x).1 refl) ∙ (neither (nat_eq x x) (list_any (nat_eq x) xs) (apart x h)).0))
    by false h = refl

-- what stands in a list is listed
pub listed_at : (ns : List ℕ) (k d : ℕ) → k < length ns → list_any (nat_eq (get_or ns k d)) ns ≡ true
listed_at [] k d within = absurd (omega arith)
listed_at (n ∷ ns) zero d within = ap (λ b. b || list_any (nat_eq n) ns) ((Decides-eqb n n).1 refl)
listed_at (n ∷ ns) (suc k) d within = or_right (nat_eq (get_or ns k d) n) _ (listed_at ns k d (omega arith))
