-- What a search by a test of types finds.
use Rattle.eco_archetypes.proofs.Common.{◌≡◌, ℕ, zero, suc, ◌<◌, Bool, true, false, true≢false, ◌&&◌, ◌||◌, not, nat_eq, nat_lt, List, []}
use Rattle.eco_archetypes.proofs.Common.{◌∷◌, ◌++◌, length, filter, get_or, slice_get, Option, Some, None, option_map, refl, sym, ap, ◌∙◌}
use Rattle.eco_archetypes.proofs.Common.{arith, add-one, ◌+◌, take, All, list_any, IsDistinct, Decides-eqb, any-filter_same, list_any-append}
use Rattle.eco_archetypes.proofs.Common.{get_or_from_slice_get, same_Some, Id, Pattern, both, first, second, any_is, or_right, TableState, slot_of, AreNeeded}
use Rattle.eco_archetypes.proofs.Common.{group_at, type_matches_one, passes_with, passes_without, any_matches, same_tests, type_at, type_matches, has_one_of}
use Rattle.eco_archetypes.proofs.Common.{is_found_by, is_found_in, FindsSome, IsAllFound}
use Rattle.std.proofs.Math.Seq.{take-length, take-suc}
use Rattle.eco_index.proofs.Keys.{and_true, or_false}
use Rattle.eco_index.proofs.Listings.{any_weaker, distinct_filtered, distinct_joined, distinct_none, listed_at}

-- ---- one table

-- a type with an id that one of the patterns matches
pub has_one : (ps : List Pattern) (place : ℕ) (p : Pattern) (o : Option (List Id)) → slice_get ps place ≡ Some p → type_matches o p ≡ true
    → has_one_of ps o ≡ true
has_one [] place p o at h = absurd (cc)
has_one (q ∷ ps) zero p o at h = ap (λ b. b || has_one_of ps o) (ap (type_matches o) (same_Some q p at) ∙ h)
has_one (q ∷ ps) (suc place) p o at h = or_right (type_matches o q) (has_one_of ps o) (has_one ps place p o at h)

-- and so has the type with one of those before a place
pub has_before : (ps : List Pattern) (place before : ℕ) (p : Pattern) (o : Option (List Id)) → before < place → slice_get ps before ≡ Some p
    → type_matches o p ≡ true → has_one_of (take place ps) o ≡ true
has_before [] place before p o earlier at h = absurd (cc)
has_before (q ∷ ps) zero before p o earlier at h = absurd (omega (arith, earlier))
has_before (q ∷ ps) (suc place) zero p o earlier at h = ap (λ b. b || has_one_of (take place ps) o) (ap (type_matches o) (same_Some q p at) ∙ h)
has_before (q ∷ ps) (suc place) (suc before) p o earlier at h =
    or_right (type_matches o q) (has_one_of (take place ps) o) (has_before ps place before p o (omega (arith, earlier)) at h)

more_taken : (ps : List Pattern) (place : ℕ) (p : Pattern) → place < length ps → slice_get ps place ≡ Some p
    → take (place + 1) ps ≡ take place ps ++ p ∷ []
more_taken ps place p within at =
    rw (add-one) (take-suc ps place p within ∙ ap (λ q. take place ps ++ q ∷ []) (get_or_from_slice_get ps place p p at))

pub not_before : (ps : List Pattern) (place : ℕ) (p : Pattern) (o : Option (List Id)) → place < length ps → slice_get ps place ≡ Some p
    → has_one_of (take place ps) o ≡ false → type_matches o p ≡ false → has_one_of (take (place + 1) ps) o ≡ false
not_before ps place p o within at none other =
    ap (λ qs. has_one_of qs o) (more_taken ps place p within at)
    ∙ list_any-append (type_matches o) (take place ps) (p ∷ [])
    ∙ (λ k. none k || (other k || false))

abbrev own_type : Option TableState → Option (List Id)
own_type o = option_map (λ (t : TableState). t.ids) o

-- it has rows, no pattern before has found it, and its type passes
pub new_is : (test : List Id → Bool) (ps : List Pattern) (s : List (Option TableState)) (n : ℕ)
    → (not (has_one_of ps (type_at s n)) && is_found_in test s n) ≡ is_found_in (passes_without test ps) s n
new_is test ps s n = by (slot_of s n)
  where
    neither : (b : Bool) → (b && false) ≡ false
    neither true = refl
    neither false = refl

    turned : (a b c : Bool) → (a && (b && c)) ≡ (b && (a && c))
    turned true b c = refl
    turned false true c = refl
    turned false false c = refl

    by : (o : Option TableState) → (not (has_one_of ps (own_type o)) && is_found_by test o)
        ≡ is_found_by (passes_without test ps) o
    by None = neither (not (has_one_of ps None))
    by (Some t) = turned (not (type_matches_one ps t.ids)) (nat_lt 0 (length t.rows)) (test t.ids)

-- a stronger test finds no other tables
weaker : (f g : List Id → Bool) → ((ids : List Id) → f ids ≡ true → g ids ≡ true) → (o : Option TableState) → is_found_by f o ≡ true
    → is_found_by g o ≡ true
weaker f g less None h = h
weaker f g less (Some t) h = both _ _ (first (nat_lt 0 (length t.rows)) (f t.ids) h) (less t.ids (second (nat_lt 0 (length t.rows)) (f t.ids) h))

-- a new table that is found passes
pub new_found : (test : List Id → Bool) (ps : List Pattern) (s : List (Option TableState)) (n : ℕ) → is_found_in (passes_without test ps) s n ≡ true
    → FindsSome test s
new_found test ps s n h = (n, weaker (passes_without test ps) test (λ ids. second (not (type_matches_one ps ids)) (test ids)) (slot_of s n) h)

-- tests that agree find the same tables
found_as : (f g : List Id → Bool) → ((ids : List Id) → f ids ≡ g ids) → (o : Option TableState) → is_found_by f o ≡ is_found_by g o
found_as f g agree None = refl
found_as f g agree (Some t) = ap (λ b. nat_lt 0 (length t.rows) && b) (agree t.ids)

-- ---- all tables

pub none_yet : (test : List Id → Bool) (s : List (Option TableState)) → IsAllFound (passes_with test []) s []
none_yet test s = record { listed = λ n. none (slot_of s n); distinct = distinct_none }
  where
    never : (b : Bool) → false ≡ (b && false)
    never true = refl
    never false = refl

    none : (o : Option TableState) → false ≡ is_found_by (passes_with test []) o
    none None = refl
    none (Some t) = never (nat_lt 0 (length t.rows))

pub none_first : (test : List Id → Bool) (s : List (Option TableState)) (n : ℕ) → is_found_in (passes_with test []) s n ≡ false
none_first test s n = sym ((none_yet test s).listed n)

-- all tables whose types pass are found by the patterns of one group
needed_is : (test : List Id → Bool) (groups : List (List Pattern)) (k : ℕ) → AreNeeded test groups → k < length groups
    → (ids : List Id) → passes_with test (group_at groups k) ids ≡ test ids
needed_is test groups k needed within ids =
    same_tests (passes_with test (group_at groups k) ids) (test ids)
    (λ h. second (type_matches_one (group_at groups k) ids) (test ids) h)
    (λ h. both (type_matches_one (group_at groups k) ids) (test ids) (needed ids h k [] within) h)

whole_group : (test : List Id → Bool) (groups : List (List Pattern)) (k count : ℕ) → AreNeeded test groups → k < length groups
    → count ≡ length (group_at groups k) → (ids : List Id) → passes_with test (take count (group_at groups k)) ids ≡ test ids
whole_group test groups k count needed within is ids =
    ap (λ ps. passes_with test ps ids) (ap (λ n. take n (group_at groups k)) is ∙ take-length (group_at groups k))
    ∙ needed_is test groups k needed within ids

pub all_found : (test : List Id → Bool) (groups : List (List Pattern)) (k count : ℕ) (s : List (Option TableState)) (found : List ℕ)
    → AreNeeded test groups → k < length groups → count ≡ length (group_at groups k)
    → IsAllFound (passes_with test (take count (group_at groups k))) s found → IsAllFound test s found
all_found test groups k count s found needed within is all = record {
  listed = λ n. all.listed n ∙ found_as _ test (whole_group test groups k count needed within is) (slot_of s n);
  distinct = all.distinct;
}

pub none_found : (test : List Id → Bool) (groups : List (List Pattern)) (k count : ℕ) (s : List (Option TableState))
    → AreNeeded test groups → k < length groups → count ≡ length (group_at groups k)
    → ((n : ℕ) → is_found_in (passes_with test (take count (group_at groups k))) s n ≡ false) → FindsSome test s → false ≡ true
none_found test groups k count s needed within is none some =
    sym (none some.0) ∙ found_as _ test (whole_group test groups k count needed within is) (slot_of s some.0) ∙ some.1

module _ (s : List (Option TableState)) (test : List Id → Bool) (xs : List ℕ) where
  -- a slot of the list whose table is found
  pub some_found : list_any (is_found_in test s) xs ≡ true → FindsSome test s
  some_found h = let some = any_is (is_found_in test s) xs h in (some.0, some.1)

  module _ (ps : List Pattern) (place : ℕ) (p : Pattern) (within : place < length ps) (at : slice_get ps place ≡ Some p)
      (here : (n : ℕ) → list_any (nat_eq n) xs ≡ type_matches (type_at s n) p) where
    abbrev before : List Pattern
    before = take place ps

    -- a pattern of the group has found them
    pub listed_match : All (λ n. has_one_of ps (type_at s n) ≡ true) xs
    listed_match k d in_it =
        has_one ps place p (type_at s (get_or xs k d)) at (sym (here (get_or xs k d)) ∙ listed_at xs k d in_it)

    module _ (found : List ℕ) (all : IsAllFound (passes_with test before) s found) where
      abbrev new : ℕ → Bool
      new = is_found_in (passes_without test before) s

      kept : (n : ℕ) → list_any (nat_eq n) (filter new xs) ≡ (new n && list_any (nat_eq n) xs)
      kept n = any-filter_same (nat_eq n) new (new n) (λ k same. ap new (sym ((Decides-eqb n k).0 same))) xs

      -- with the tables of one more pattern
      found_more : (n : ℕ) → list_any (nat_eq n) (found ++ filter new xs) ≡ is_found_in (passes_with test (before ++ p ∷ [])) s n
      found_more n =
          list_any-append (nat_eq n) found (filter new xs)
          ∙ (λ k. all.listed n k || (kept n ∙ ap (λ b. new n && b) (here n)) k)
          ∙ by (slot_of s n)
        where
          joined : (a e h t : Bool) → ((a && (e && t)) || ((a && (not e && t)) && h)) ≡ (a && ((e || (h || false)) && t))
          joined false e h t = refl
          joined true true h t = or_false t
          joined true false h true = sym (or_false h) ∙ sym (and_true (h || false))
          joined true false true false = refl
          joined true false false false = refl

          by : (o : Option TableState)
              → (is_found_by (passes_with test before) o || (is_found_by (passes_without test before) o && type_matches (own_type o) p))
              ≡ is_found_by (passes_with test (before ++ p ∷ [])) o
          by None = refl
          by (Some t) =
              joined (nat_lt 0 (length t.rows)) (type_matches_one before t.ids) (any_matches t.ids p) (test t.ids)
              ∙ ap (λ b. nat_lt 0 (length t.rows) && (b && test t.ids)) (sym (list_any-append (any_matches t.ids) before (p ∷ [])))

      distinct_more : IsDistinct nat_eq xs → IsDistinct nat_eq (found ++ filter new xs)
      distinct_more once = distinct_joined found (filter new xs) all.distinct (distinct_filtered new xs once)
          (λ n h. all.listed n ∙ by (slot_of s n) (first (new n) (list_any (nat_eq n) xs) (sym (kept n) ∙ h)))
        where
          apart : (a e t : Bool) → (a && (not e && t)) ≡ true → (a && (e && t)) ≡ false
          apart false e t h = refl
          apart true true t h = absurd (true≢false (sym h))
          apart true false t h = refl

          by : (o : Option TableState) → is_found_by (passes_without test before) o ≡ true → is_found_by (passes_with test before) o ≡ false
          by None h = refl
          by (Some t) h = apart (nat_lt 0 (length t.rows)) (type_matches_one before t.ids) (test t.ids) h

      pub all_more : IsDistinct nat_eq xs
          → IsAllFound (passes_with test (take (place + 1) ps)) s (found ++ filter (is_found_in (passes_without test (take place ps)) s) xs)
      all_more once = rw (more_taken ps place p within at) (record { listed = found_more; distinct = distinct_more once })

    -- where none of the list is found, one more pattern finds none
    pub none_more : ((n : ℕ) → is_found_in (passes_with test before) s n ≡ false) → list_any (is_found_in test s) xs ≡ false
        → (n : ℕ) → is_found_in (passes_with test (take (place + 1) ps)) s n ≡ false
    none_more none_before none n =
        ap (λ qs. is_found_in (passes_with test qs) s n) (more_taken ps place p within at) ∙ by (slot_of s n)
        ∙ (λ k. none_before n k || other (is_found_in test s n) (type_matches (type_at s n) p) refl refl k)
      where
        parted : (a e h t : Bool) → (a && ((e || (h || false)) && t)) ≡ ((a && (e && t)) || ((a && t) && h))
        parted false e h t = refl
        parted true true h true = refl
        parted true true h false = refl
        parted true false true t = sym (and_true t)
        parted true false false true = refl
        parted true false false false = refl

        by : (o : Option TableState) → is_found_by (passes_with test (before ++ p ∷ [])) o
            ≡ (is_found_by (passes_with test before) o || (is_found_by test o && type_matches (own_type o) p))
        by None = refl
        by (Some t) =
            ap (λ b. nat_lt 0 (length t.rows) && (b && test t.ids)) (list_any-append (any_matches t.ids) before (p ∷ []))
            ∙ parted (nat_lt 0 (length t.rows)) (type_matches_one before t.ids) (any_matches t.ids p) (test t.ids)

        same_found : (m : ℕ) → is_found_in test s n ≡ true → nat_eq n m ≡ true → is_found_in test s m ≡ true
        same_found m h same = ap (is_found_in test s) (sym ((Decides-eqb n m).0 same)) ∙ h

        other : (a b : Bool) → is_found_in test s n ≡ a → type_matches (type_at s n) p ≡ b
            → (is_found_in test s n && type_matches (type_at s n) p) ≡ false
        other true true is matches =
            absurd (true≢false (sym (any_weaker (nat_eq n) (is_found_in test s) (λ m. same_found m is) xs (here n ∙ matches)) ∙ none))
        other false b is matches = ap (λ x. x && type_matches (type_at s n) p) is
        other true false is matches = (λ k. is k && matches k)
