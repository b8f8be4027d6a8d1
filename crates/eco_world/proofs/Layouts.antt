-- Lists of tables that ascend by type, and a whole layout around those of some types.
use Rattle.eco_world.proofs.Common.{◌≡◌, ◌≢◌, ℕ, zero, suc, ◌<◌, Bool, true, false, cond, List, [], ◌∷◌, map, filter, length, get_or}
use Rattle.eco_world.proofs.Common.{refl, sym, ap, ◌∙◌, subst, arith, suc-add, zero-le, le_of_suc-le-suc, IsTrue, IsSortedBy, Ordering, Less, Equal}
use Rattle.eco_world.proofs.Common.{Greater, is_eq, is_lt, true≢false, ◌⊎◌, inl, inr, ◌↔◌, Contains, slice_cmp, lists_total, by_order, All}
use Rattle.eco_world.proofs.Common.{AllByRecursion, IsDistinct, list_all, IsPermutation, ordering_reverse, ordering_then, eq_by_cmp, get_or-map, length-map}
use Rattle.eco_world.proofs.Common.{Contains-get_or, Contains-permutation, IsPermutation-map, IsPermutation-sym, ranks_by, sorted_far, Entity, Id, ListedTable}
use Rattle.eco_world.proofs.Common.{IsLayout, is_distinct, has_item, id_cmp, is_ascending, with_item, WorldState, is_alive, ascending_with, both, first, second}
use Rattle.eco_world.proofs.Common.{with_present, or_left, or_right, id_cmp_total, same_id, TableRows, IsByType, listed, listed_of, type_of}
use Rattle.std.specs.Cmp.{IsTotalOrder, on_total, tied_itself}
use Rattle.std.proofs.lemmas.List.Sorted.{IsPermutation-cons, IsPermutation-insert, IsPermutation-refl, IsPermutation-trans}
use Rattle.std.proofs.lemmas.Map.Keys.{IsDistinct-IsPermutation, IsDistinct-head, IsDistinct-tail}

-- ---- elements of a list

pub there : {X : Type 0} (y x : X) (xs : List X) → Contains xs x → Contains (y ∷ xs) x
there y x xs p = (suc p.0, omega (arith, p.1), p.2)

pub here : {X : Type 0} (x : X) (xs : List X) → Contains (x ∷ xs) x
here x xs = (0, omega arith, refl)

pub no_element : {X : Type 0} (x : X) → Contains [] x → ⊥
no_element x p = omega (arith, p.1)

pub element_cases : {X : Type 0} (y x : X) (xs : List X) → Contains (y ∷ xs) x → (y ≡ x) ⊎ Contains xs x
element_cases {X} y x xs p = by p.0 p.1 p.2
  where
    by : (k : ℕ) → k < suc (length xs) → get_or (y ∷ xs) k x ≡ x → (y ≡ x) ⊎ Contains xs x
    by zero within is = inl is
    by (suc k) within is = inr (k, le_of_suc-le-suc within, is)

pub all_of : {X : Type 0} (P : X → Type 0) (xs : List X) → ((x : X) → Contains xs x → P x) → All P xs
all_of P xs each k d within = each (get_or xs k d) (Contains-get_or xs k d within)

-- what is made of an element is made of one of the list, and the other way around
pub mapped_there : {X Y : Type 0} (f : X → Y) (xs : List X) (x : X) → Contains xs x → Contains (map f xs) (f x)
mapped_there f xs x p = (p.0, omega (arith, p.1, length-map xs f), get_or-map f xs p.0 x (f x) p.1 ∙ ap f p.2)

pub mapped_from : {X Y : Type 0} (f : X → Y) (xs : List X) (y : Y) → Contains (map f xs) y → (x : X) × Contains xs x × (f x ≡ y)
mapped_from f [] y p = absurd (no_element y p)
mapped_from f (x ∷ xs) y p = elim (element_cases (f x) y (map f xs) p) as (λ _. (z : _) × Contains (x ∷ xs) z × (f z ≡ y)) [
  | inl e ↦ (x, here x xs, e)
  | inr c ↦ let later = mapped_from f xs y c in (later.0, there x later.0 xs later.1, later.2)
]

-- ---- the order of tables by type

abbrev pub by_type : ListedTable → ListedTable → Ordering
by_type a b = slice_cmp id_cmp a.ids b.ids

by_type_total : IsTotalOrder by_type
by_type_total = on_total (λ (t : ListedTable). t.ids) (lists_total id_cmp_total)

abbrev pub same_type : ListedTable → ListedTable → Bool
same_type = eq_by_cmp by_type

same_type_flips : (a b : ListedTable) → same_type a b ≡ same_type b a
same_type_flips a b = ap is_eq (by_type_total.antisymm a b) ∙ reversed (by_type b a)
  where
    reversed : (r : Ordering) → is_eq (ordering_reverse r) ≡ is_eq r
    reversed Less = refl
    reversed Equal = refl
    reversed Greater = refl

-- tables that tie have the same type
pub same_ids : (xs ys : List Id) → is_eq (slice_cmp id_cmp xs ys) ≡ true → xs ≡ ys
same_ids [] [] h = refl
same_ids [] (y ∷ ys) h = absurd (true≢false (sym h))
same_ids (x ∷ xs) [] h = absurd (true≢false (sym h))
same_ids (x ∷ xs) (y ∷ ys) h =
    elim (id_cmp x y) as (λ r. id_cmp x y ≡ r → is_eq (ordering_then r (slice_cmp id_cmp xs ys)) ≡ true → ◌≡◌ {A = List Id} (x ∷ xs) (y ∷ ys)) [
      | Less ↦ λ e k. absurd (true≢false (sym k))
      | Equal ↦ λ e k. λ i. same_id x y e i ∷ same_ids xs ys k i
      | Greater ↦ λ e k. absurd (true≢false (sym k))
    ] refl h

type_ties : (a b : ListedTable) → a.ids ≡ b.ids → is_eq (by_type a b) ≡ true
type_ties a b same = ap (λ ids. is_eq (slice_cmp id_cmp a.ids ids)) (sym same) ∙ ap is_eq (tied_itself (lists_total id_cmp_total) a.ids)

-- ---- sorted tables of different types ascend

below : (a b : ListedTable) → is_lt (by_type b a) ≡ false → same_type a b ≡ false → is_lt (by_type a b) ≡ true
below a b not_less apart = let back = by_type_total.antisymm b a in grind arith

all_below : (a : TableRows) (ts : List TableRows) → ((k : ℕ) (d : TableRows) → k < length ts →
    is_lt (by_type (listed_of (get_or ts k d)) (listed_of a)) ≡ false)
    → AllByRecursion (λ t. same_type (listed_of a) t ≡ false) (listed ts) → IsTrue (list_all (λ t. is_lt (by_type (listed_of a) t)) (listed ts))
all_below a [] after apart = refl
all_below a (t ∷ ts) after apart =
    both _ _ (below (listed_of a) (listed_of t) (after 0 t (omega arith)) apart.0) (all_below a ts (λ k d within. after (suc k) d (omega arith)) apart.1)

abbrev is_before : TableRows → TableRows → Bool
is_before a b = is_lt (by_type (listed_of a) (listed_of b))

sorted_ascends : (ts : List TableRows) → IsSortedBy is_before ts → IsDistinct same_type (listed ts) → IsTrue (is_ascending by_type (listed ts))
sorted_ascends [] sorted distinct = refl
sorted_ascends (t ∷ ts) sorted distinct =
    both _ _
    (all_below t ts (λ k d within. sorted_far is_before (ranks_by by_type_total listed_of) (t ∷ ts) sorted 0 (suc k) d (omega arith) (omega arith))
    (IsDistinct-head same_type (listed_of t) (listed ts) distinct))
    (sorted_ascends ts (λ k d z within. rw suc-add at (sorted (suc k) d zero-le (omega arith))) (IsDistinct-tail same_type (listed_of t) (listed ts) distinct))

-- what a sort by type leaves of tables of different types
pub sorted_tables : (old new : List TableRows) → IsPermutation old new → IsByType new → IsDistinct same_type (listed old) →
    IsTrue (is_ascending by_type (listed new))
sorted_tables old new moved sorted distinct =
    sorted_ascends new sorted
    (IsDistinct-IsPermutation same_type same_type_flips (listed old) (listed new) (IsPermutation-map listed_of old new moved) distinct)

-- ---- a table put in its place

module _ (x : ListedTable) where
  put_cases : (ts : List ListedTable) (t : ListedTable) → Contains (with_item by_type ts x) t → Contains ts t ⊎ (x ≡ t)
  put_cases [] t p = elim (element_cases x t [] p) as (λ _. Contains [] t ⊎ (x ≡ t)) [ inl e ↦ inr e | inr q ↦ inl q ]
  put_cases (y ∷ ys) t p =
      elim (by_type y x) as (λ r. Contains (by_order r (y ∷ with_item by_type ys x) (y ∷ ys) (x ∷ y ∷ ys)) t → Contains (y ∷ ys) t ⊎ (x ≡ t)) [
        | Less ↦ λ q. elim (element_cases y t (with_item by_type ys x) q) as (λ _. Contains (y ∷ ys) t ⊎ (x ≡ t)) [
          | inl e ↦ inl (subst (Contains (y ∷ ys)) e (here y ys))
          | inr later ↦ elim (put_cases ys t later) as (λ _. Contains (y ∷ ys) t ⊎ (x ≡ t)) [ inl c ↦ inl (there y t ys c) | inr e ↦ inr e ]
        ]
        | Equal ↦ λ q. inl q
        | Greater ↦ λ q. elim (element_cases x t (y ∷ ys) q) as (λ _. Contains (y ∷ ys) t ⊎ (x ≡ t)) [ inl e ↦ inr e | inr c ↦ inl c ]
      ] p

  put_keeps : (ts : List ListedTable) (t : ListedTable) → Contains ts t → Contains (with_item by_type ts x) t
  put_keeps [] t p = absurd (no_element t p)
  put_keeps (y ∷ ys) t p =
      elim (by_type y x) as (λ r. Contains (by_order r (y ∷ with_item by_type ys x) (y ∷ ys) (x ∷ y ∷ ys)) t) [
        | Less ↦ elim (element_cases y t ys p) as (λ _. Contains (y ∷ with_item by_type ys x) t) [
          | inl e ↦ subst (Contains (y ∷ with_item by_type ys x)) e (here y (with_item by_type ys x))
          | inr c ↦ there y t (with_item by_type ys x) (put_keeps ys t c)
        ]
        | Equal ↦ p
        | Greater ↦ there x t (y ∷ ys) p
      ]

  put_there : (ts : List ListedTable) → (t : ListedTable) × Contains (with_item by_type ts x) t × (t.ids ≡ x.ids)
  put_there [] = (x, here x [], refl)
  put_there (y ∷ ys) =
      elim (by_type y x) as (λ r. by_type y x ≡ r → (t : ListedTable) × Contains (by_order r (y ∷ with_item by_type ys x) (y ∷ ys) (x ∷ y ∷ ys)) t
      × (t.ids ≡ x.ids)) [
        | Less ↦ λ e. let later = put_there ys in (later.0, there y later.0 (with_item by_type ys x) later.1, later.2)
        | Equal ↦ λ e. (y, here y ys, same_ids y.ids x.ids (ap is_eq e))
        | Greater ↦ λ e. (x, here x (y ∷ ys), refl)
      ] refl

  put_filtered : (q : ListedTable → Bool) → q x ≡ false → (ts : List ListedTable) → filter q (with_item by_type ts x) ≡ filter q ts
  put_filtered q out [] = ap (λ b. cond b (x ∷ []) []) out
  put_filtered q out (y ∷ ys) =
      elim (by_type y x) as (λ r. filter q (by_order r (y ∷ with_item by_type ys x) (y ∷ ys) (x ∷ y ∷ ys)) ≡ filter q (y ∷ ys)) [
        | Less ↦ ap (λ zs. cond (q y) (y ∷ zs) zs) (put_filtered q out ys)
        | Equal ↦ refl
        | Greater ↦ ap (λ b. cond b (x ∷ filter q (y ∷ ys)) (filter q (y ∷ ys))) out
      ]

  -- where its type is there, nothing changes
  put_again : (ts : List ListedTable) (t : ListedTable) → IsTrue (is_ascending by_type ts) → Contains ts t → t.ids ≡ x.ids
      → with_item by_type ts x ≡ ts
  put_again ts t up p same = with_present by_type_total ts x up (has ts p)
    where
      has : (ys : List ListedTable) → Contains ys t → has_item by_type ys x ≡ true
      has [] c = absurd (no_element t c)
      has (y ∷ ys) c = elim (element_cases y t ys c) as (λ _. has_item by_type (y ∷ ys) x ≡ true) [
        | inl e ↦ or_left _ _ (type_ties y x (ap (λ (z : ListedTable). z.ids) e ∙ same))
        | inr d ↦ or_right (is_eq (by_type y x)) _ (has ys d)
      ]

-- ---- tables of different types, put in order

put_moves : (x : ListedTable) (ts : List ListedTable) → ((t : ListedTable) → Contains ts t → same_type x t ≡ false)
    → IsPermutation (x ∷ ts) (with_item by_type ts x)
put_moves x [] apart = IsPermutation-refl (x ∷ [])
put_moves x (y ∷ ys) apart =
    elim (by_type y x) as (λ r. by_type y x ≡ r
    → IsPermutation (x ∷ y ∷ ys) (by_order r (y ∷ with_item by_type ys x) (y ∷ ys) (x ∷ y ∷ ys))) [
      | Less ↦ λ e.
          IsPermutation-trans (x ∷ y ∷ ys) (y ∷ x ∷ ys) (y ∷ with_item by_type ys x) (IsPermutation-insert (y ∷ ys) 1 x)
          (IsPermutation-cons y (x ∷ ys) (with_item by_type ys x) (put_moves x ys (λ t c. apart t (there y t ys c))))
      | Equal ↦ λ e. absurd (true≢false (sym (ap is_eq e) ∙ same_type_flips y x ∙ apart y (here y ys)))
      | Greater ↦ λ e. IsPermutation-refl (x ∷ y ∷ ys)
    ] refl

each_of : {X : Type 0} (P : X → Type 0) (xs : List X) → AllByRecursion P xs → (x : X) → Contains xs x → P x
each_of P [] all x c = absurd (no_element x c)
each_of P (y ∷ ys) all x c = elim (element_cases y x ys c) as (λ _. P x) [ inl e ↦ subst P e all.0 | inr d ↦ each_of P ys all.1 x d ]

abbrev in_order : List ListedTable → List ListedTable
in_order [] = []
in_order (t ∷ ts) = with_item by_type (in_order ts) t

in_order_ascends : (ts : List ListedTable) → IsTrue (is_ascending by_type (in_order ts))
in_order_ascends [] = refl
in_order_ascends (t ∷ ts) = ascending_with by_type_total (in_order ts) t (in_order_ascends ts)

in_order_moves : (ts : List ListedTable) → IsDistinct same_type ts → IsPermutation ts (in_order ts)
in_order_moves [] distinct = IsPermutation-refl []
in_order_moves (t ∷ ts) distinct =
    let moved = in_order_moves ts (IsDistinct-tail same_type t ts distinct) in
    IsPermutation-trans (t ∷ ts) (t ∷ in_order ts) (with_item by_type (in_order ts) t) (IsPermutation-cons t ts (in_order ts) moved)
    (put_moves t (in_order ts)
    (λ u c. each_of (λ v. same_type t v ≡ false) ts (IsDistinct-head same_type t ts distinct) u
    (Contains-permutation (in_order ts) ts u (IsPermutation-sym ts (in_order ts) moved) c)))

-- ---- many tables put in their places

abbrev grown : List ListedTable → List ListedTable → List ListedTable
grown ts [] = ts
grown ts (x ∷ xs) = grown (with_item by_type ts x) xs

grown_ascends : (ts xs : List ListedTable) → IsTrue (is_ascending by_type ts) → IsTrue (is_ascending by_type (grown ts xs))
grown_ascends ts [] up = up
grown_ascends ts (x ∷ xs) up = grown_ascends (with_item by_type ts x) xs (ascending_with by_type_total ts x up)

grown_cases : (ts xs : List ListedTable) (t : ListedTable) → Contains (grown ts xs) t → Contains ts t ⊎ Contains xs t
grown_cases ts [] t p = inl p
grown_cases ts (x ∷ xs) t p = elim (grown_cases (with_item by_type ts x) xs t p) as (λ _. Contains ts t ⊎ Contains (x ∷ xs) t) [
  | inl c ↦ elim (put_cases x ts t c) as (λ _. Contains ts t ⊎ Contains (x ∷ xs) t) [
    | inl old ↦ inl old
    | inr e ↦
        inr (subst (Contains (x ∷ xs)) e (here x xs))
  ]
  | inr c ↦ inr (there x t xs c)
]

grown_keeps : (ts xs : List ListedTable) (t : ListedTable) → Contains ts t → Contains (grown ts xs) t
grown_keeps ts [] t p = p
grown_keeps ts (x ∷ xs) t p = grown_keeps (with_item by_type ts x) xs t (put_keeps x ts t p)

grown_there : (ts xs : List ListedTable) (x : ListedTable) → Contains xs x → (t : ListedTable) × Contains (grown ts xs) t × (t.ids ≡ x.ids)
grown_there ts [] x p = absurd (no_element x p)
grown_there ts (y ∷ ys) x p = elim (element_cases y x ys p) as (λ _. (t : ListedTable) × Contains (grown (with_item by_type ts y) ys) t × (t.ids ≡ x.ids)) [
  | inl e ↦ let put = put_there y ts in (put.0, grown_keeps (with_item by_type ts y) ys put.0 put.1, put.2 ∙ ap (λ (z : ListedTable). z.ids) e)
  | inr c ↦ grown_there (with_item by_type ts y) ys x c
]

grown_filtered : (q : ListedTable → Bool) (ts xs : List ListedTable) → IsTrue (is_ascending by_type ts)
    → ((x : ListedTable) → Contains xs x → q x ≡ true → (t : ListedTable) × Contains ts t × (t.ids ≡ x.ids))
    → filter q (grown ts xs) ≡ filter q ts
grown_filtered q ts [] up had = refl
grown_filtered q ts (x ∷ xs) up had =
    grown_filtered q (with_item by_type ts x) xs (ascending_with by_type_total ts x up)
    (λ y c passes. let old = had y (there x y xs c) passes in (old.0, put_keeps x ts old.0 old.1, old.2))
    ∙ by (q x) refl
  where
    by : (b : Bool) → q x ≡ b → filter q (with_item by_type ts x) ≡ filter q ts
    by true e = let old = had x (here x xs) e in ap (filter q) (put_again x ts old.0 up old.1 old.2)
    by false e = put_filtered x q e ts

-- ---- tables of a world

-- the table is one of the world's: not empty, and it has each who has just its ids once
pub record IsTable (w : WorldState) (t : ListedTable) : Type 0 where
  pub non_empty : t.entities ≢ []
  pub once : IsTrue (is_distinct t.entities)
  pub exact : (e : Entity) → Contains t.entities e ↔ (IsTrue (is_alive w e) × (t.ids ≡ type_of w e))

-- tables of the world, among them one for each living entity whose type passes
pub record Covers (w : WorldState) (passes : List Id → Bool) (tables : List ListedTable) : Type 0 where
  pub each : (t : ListedTable) → Contains tables t → IsTable w t
  pub all : (e : Entity) → IsTrue (is_alive w e) → passes (type_of w e) ≡ true → (t : ListedTable) × Contains tables t × (t.ids ≡ type_of w e)

-- in whatever order the tables stand
pub covers_moved : (w : WorldState) (passes : List Id → Bool) (xs ys : List ListedTable) → IsPermutation xs ys → Covers w passes xs → Covers w passes ys
covers_moved w passes xs ys moved covers = record {
  each = λ t p. covers.each t (Contains-permutation ys xs t (IsPermutation-sym xs ys moved) p);
  all = λ e alive passed. let found = covers.all e alive passed in (found.0, Contains-permutation xs ys found.0 moved found.1, found.2);
}

types_ascend : (ts : List ListedTable) → IsTrue (is_ascending by_type ts) → IsTrue (is_ascending (slice_cmp id_cmp) (map (λ t. t.ids) ts))
types_ascend [] up = refl
types_ascend (t ∷ ts) up = both _ _ (lower ts (first _ _ up)) (types_ascend ts (second _ _ up))
  where
    lower : (us : List ListedTable) → IsTrue (list_all (λ u. is_lt (by_type t u)) us) →
        IsTrue (list_all (λ ids. is_lt (slice_cmp id_cmp t.ids ids)) (map (λ u. u.ids) us))
    lower [] h = refl
    lower (u ∷ us) h = both _ _ (first _ _ h) (lower us (second _ _ h))

pub layout_of : (w : WorldState) (tables : List ListedTable) → IsTrue (is_ascending by_type tables) → Covers w (λ _. true) tables → IsLayout w tables
layout_of w tables up covers = record {
  non_empty = all_of (λ t. t.entities ≢ []) tables (λ t p. (covers.each t p).non_empty);
  ascending = types_ascend tables up;
  once = all_of (λ t. IsTrue (is_distinct t.entities)) tables (λ t p. (covers.each t p).once);
  exact = λ e t p. (covers.each t p).exact e;
  all = λ e alive. let found = covers.all e alive refl in (found.0, found.1, ((covers.each found.0 found.1).exact e).1 (alive, found.2));
}

passing_stay : (q : ListedTable → Bool) (ts : List ListedTable) → ((t : ListedTable) → Contains ts t → q t ≡ true) → filter q ts ≡ ts
passing_stay q [] all = refl
passing_stay q (t ∷ ts) all =
    ap (λ b. cond b (t ∷ filter q ts) (filter q ts)) (all t (here t ts)) ∙ ap (λ us. t ∷ us) (passing_stay q ts (λ u c. all u (there t u ts c)))

someone : (es : List Entity) → es ≢ [] → (e : Entity) × Contains es e
someone [] some = absurd (some refl)
someone (e ∷ es) some = (e, here e es)

-- tables of the world are among those of a layout, if there are tables of all types
layout_over : (w : WorldState) (tables others : List ListedTable) → IsTrue (is_ascending by_type tables)
    → ((t : ListedTable) → Contains tables t → IsTable w t) → Covers w (λ _. true) others → IsLayout w (grown tables others)
layout_over w tables others up each rest = layout_of w (grown tables others) (grown_ascends tables others up) (record {
  each = λ t p. elim (grown_cases tables others t p) as (λ _. IsTable w t) [ inl c ↦ each t c | inr c ↦ rest.each t c ];
  all = λ e alive passed.
      let found = rest.all e alive refl in
      let grows = grown_there tables others found.0 found.1 in
      (grows.0, grows.1, grows.2 ∙ found.2);
})

-- so is one alone
pub layout_with : (w : WorldState) (t : ListedTable) (others : List ListedTable) → IsTable w t → Covers w (λ _. true) others
    → (layout : List ListedTable) × IsLayout w layout × Contains layout t
layout_with w t others own rest = (
  grown (t ∷ []) others,
  layout_over w (t ∷ []) others refl (λ u p. subst (IsTable w) (only u p) own) rest,
  grown_keeps (t ∷ []) others t (here t []),
)
  where
    only : (u : ListedTable) → Contains (t ∷ []) u → t ≡ u
    only u p = elim (element_cases t u [] p) as (λ _. t ≡ u) [ inl e ↦ e | inr c ↦ absurd (no_element u c) ]

-- tables of the types that pass are those of a layout, if there are tables of all types
pub layout_around : (w : WorldState) (passes : List Id → Bool) (tables others : List ListedTable) → IsTrue (is_ascending by_type tables)
    → Covers w passes tables → ((t : ListedTable) → Contains tables t → passes t.ids ≡ true) → Covers w (λ _. true) others
    → (layout : List ListedTable) × IsLayout w layout × (tables ≡ filter (λ t. passes t.ids) layout)
layout_around w passes tables others up covers picked rest = (
  grown tables others,
  layout_over w tables others up covers.each rest,
  sym (grown_filtered (λ t. passes t.ids) tables others up had ∙ passing_stay (λ t. passes t.ids) tables picked),
)
  where
    had : (x : ListedTable) → Contains others x → passes x.ids ≡ true → (t : ListedTable) × Contains tables t × (t.ids ≡ x.ids)
    had x p passed =
        let table = rest.each x p in
        let member = someone x.entities table.non_empty in
        let lives = (table.exact member.0).0 member.1 in
        let found = covers.all member.0 lives.0 (ap passes (sym lives.1) ∙ passed) in
        (found.0, found.1, found.2 ∙ sym lives.1)

-- also where they do not ascend
pub layout_beside : (w : WorldState) (passes : List Id → Bool) (tables others : List ListedTable) → IsDistinct same_type tables
    → Covers w passes tables → ((t : ListedTable) → Contains tables t → passes t.ids ≡ true) → Covers w (λ _. true) others
    → (layout : List ListedTable) × IsLayout w layout × IsPermutation (filter (λ t. passes t.ids) layout) tables
layout_beside w passes tables others distinct covers picked rest =
    let moved = in_order_moves tables distinct in
    let back = IsPermutation-sym tables (in_order tables) moved in
    let around = layout_around w passes (in_order tables) others (in_order_ascends tables) (covers_moved w passes tables (in_order tables) moved covers)
    (λ t p. picked t (Contains-permutation (in_order tables) tables t back p)) rest in
    (around.0, around.1, subst (λ ts. IsPermutation ts tables) around.2 back)
