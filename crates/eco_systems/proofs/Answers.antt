-- A query answers the same on ids that it sees alike.
use Rattle.eco_systems.proofs.Common.{◌≡◌, Bool, true, false, cond, not, ◌&&◌, ◌||◌, List, [], ◌∷◌, map, filter, refl, sym, ap, ◌∙◌}
use Rattle.eco_systems.proofs.Common.{is_lt, true≢false, IsTrue, inl, inr, Option, Some, None, flat_map, option_to_list, list_any, AllByRecursion}
use Rattle.eco_systems.proofs.Common.{list_any-append, Id, Pattern, pattern_matches, id_cmp, has_item, is_ascending, both, first, or_left, or_parts, or_right}
use Rattle.eco_systems.proofs.Common.{entity_eq_itself, QuerySlot, HasPositive, is_positive, exactly, patterns_of, reads, matches_one}
use Rattle.std.specs.Prelude.{find}
use Rattle.eco_ids.specs.Answer.{same_filling, is_least_match, entries_of, choices}
use Rattle.eco_ids.specs.Terms.{QueryTerm, And, Not, Optional, Or}
use Rattle.eco_systems.proofs.Lists.{filter_both, any_filtered, any_kept, same_filtered, gathers_nothing, all_gathered, all_mapped, all_pass}
use Rattle.eco_ids.specs.declared.id.Id.TheVariants as id

-- what the slots ask
abbrev pub asked : List QuerySlot → List QueryTerm
asked slots = map (λ s. s.term) slots

-- what each slot reads is seen
abbrev pub Sees : (Id → Bool) → List QuerySlot → Type 0
Sees seen [] = Unit {0}
Sees seen (s ∷ ss) = ((i : Id) → IsTrue (matches_one (patterns_of s.term) i) → IsTrue (seen i)) × Sees seen ss

pub sees_reads : (seen : Id → Bool) (slots : List QuerySlot) → ((i : Id) → IsTrue (matches_one (reads slots) i) → IsTrue (seen i)) → Sees seen slots
sees_reads seen [] h = tt
sees_reads seen (s ∷ ss) h = (
  λ i m. h i (list_any-append (λ p. pattern_matches p i) (patterns_of s.term) (reads ss) ∙ or_left _ _ m),
  sees_reads seen ss
      (λ i m. h i (list_any-append (λ p. pattern_matches p i) (patterns_of s.term) (reads ss) ∙ or_right (matches_one (patterns_of s.term) i) _ m)),
)

-- the lists ascend, and have the same ids of those that are seen
pub record Alike (seen : Id → Bool) (xs ys : List Id) : Type 0 where
  pub up : IsTrue (is_ascending id_cmp xs)
  pub vp : IsTrue (is_ascending id_cmp ys)
  pub same : (i : Id) → IsTrue (seen i) → has_item id_cmp xs i ≡ has_item id_cmp ys i

pub exact_match : (i : Id) → IsTrue (pattern_matches (exactly i) i)
exact_match (id.One e) = entity_eq_itself e
exact_match (id.Two r t) = both _ _ (entity_eq_itself r) (entity_eq_itself t)

-- the entries of a plain slot, from the ids that match alone
abbrev least_among : Pattern → List Id → Id → Bool
least_among p zs i = not (list_any (λ j. is_lt (id_cmp j i) && (pattern_matches p j && same_filling p j i)) zs)

plain_entries : (p : Pattern) (xs : List Id) → filter (is_least_match p xs) xs ≡ filter (least_among p (filter (pattern_matches p) xs))
    (filter (pattern_matches p) xs)
plain_entries p xs =
    filter_both (pattern_matches p) (least_among p xs) xs
    ∙ λ k. filter (λ i. not (any_filtered (λ j. is_lt (id_cmp j i)) (pattern_matches p) (λ j. same_filling p j i) xs k)) (filter (pattern_matches p) xs)

module _ (seen : Id → Bool) (xs ys : List Id) (a : Alike seen xs ys) where
  first_of_group : (is : List Id) → ((i : Id) → IsTrue (matches_one (map exactly is) i) → IsTrue (seen i)) →
      find (has_item id_cmp xs) is ≡ find (has_item id_cmp ys) is
  first_of_group [] h = refl
  first_of_group (i ∷ is) h =
      λ k. cond (a.same i (h i (or_left _ _ (exact_match i))) k) (Some i) (first_of_group is (λ j m. h j (or_right (pattern_matches (exactly i) j) _ m)) k)

  kept_alike : (p : Pattern) → ((i : Id) → IsTrue (matches_one (p ∷ []) i) → IsTrue (seen i))
      → filter (pattern_matches p) xs ≡ filter (pattern_matches p) ys
  kept_alike p h = same_filtered (pattern_matches p) xs ys a.up a.vp (λ i m. a.same i (h i (or_left _ _ m)))

  pub entries_alike : (slot : QueryTerm) → ((i : Id) → IsTrue (matches_one (patterns_of slot) i) → IsTrue (seen i))
      → entries_of xs slot ≡ entries_of ys slot
  entries_alike (And p) h =
      ap (map Some) (plain_entries p xs ∙ (λ k. filter (least_among p (kept_alike p h k)) (kept_alike p h k)) ∙ sym (plain_entries p ys))
  entries_alike (Not p) h =
      ap (λ b. cond b [] (None ∷ [])) (any_kept (pattern_matches p) xs ∙ ap (list_any (pattern_matches p)) (kept_alike p h)
      ∙ sym (any_kept (pattern_matches p) ys))
  entries_alike (Optional i) h = ap (λ b. cond b (Some i) None ∷ []) (a.same i (h i (or_left _ _ (exact_match i))))
  entries_alike (Or is) h = ap (λ o. map Some (option_to_list o)) (first_of_group is h)

  pub choices_alike : (slots : List QuerySlot) → Sees seen slots → choices xs (asked slots) ≡ choices ys (asked slots)
  choices_alike [] h = refl
  choices_alike (s ∷ ss) h = λ k. flat_map (λ e. map (λ rest. e ∷ rest) (choices_alike ss h.1 k)) (entries_alike s.term h.0 k)

-- ---- an entity without ids answers no query that asks for something

no_alternative : (is : List Id) → find (has_item id_cmp []) is ≡ None
no_alternative [] = refl
no_alternative (i ∷ is) = no_alternative is

nothing_there : (slot : QueryTerm) → IsTrue (is_positive slot) → entries_of [] slot ≡ []
nothing_there (And p) h = refl
nothing_there (Not p) h = absurd (true≢false (sym h))
nothing_there (Optional i) h = absurd (true≢false (sym h))
nothing_there (Or is) h = ap (λ o. map Some (option_to_list o)) (no_alternative is)

pub no_choices : (slots : List QuerySlot) → HasPositive slots → choices [] (asked slots) ≡ []
no_choices [] h = absurd (true≢false (sym h))
no_choices (s ∷ ss) h =
    elim (or_parts (is_positive s.term) (list_any (λ t. is_positive t.term) ss) h) as (λ _. choices [] (asked (s ∷ ss)) ≡ []) [
      | inl p ↦ ap (flat_map (λ e. map (λ rest. e ∷ rest) (choices [] (asked ss)))) (nothing_there s.term p)
      | inr p ↦ ap (λ cs. flat_map (λ e. map (λ rest. e ∷ rest) cs) (entries_of [] s.term)) (no_choices ss p) ∙ gathers_nothing (entries_of [] s.term)
    ]

-- ---- each entry of a result is an id that its slot reads

-- an entry of the slot: a `!` slot has none
abbrev pub IsRead : QueryTerm → Option Id → Type 0
IsRead term None = Unit {0}
IsRead (Not p) (Some i) = ⊥
IsRead term (Some i) = IsTrue (matches_one (patterns_of term) i)

-- slot by slot
abbrev pub AreRead : List QuerySlot → List (Option Id) → Type 0
AreRead [] [] = Unit {0}
AreRead [] (entry ∷ entries) = ⊥
AreRead (s ∷ ss) [] = ⊥
AreRead (s ∷ ss) (entry ∷ entries) = IsRead s.term entry × AreRead ss entries

found_item : (t : Id → Bool) (is : List Id) → AllByRecursion (λ i. IsTrue (matches_one (map exactly is) i)) (option_to_list (find t is))
found_item t [] = tt
found_item t (i ∷ is) =
    elim (t i) as (λ b. AllByRecursion (λ j. IsTrue (pattern_matches (exactly i) j || matches_one (map exactly is) j))
    (option_to_list (cond b (Some i) (find t is)))) [
      | true ↦ (or_left _ _ (exact_match i), tt)
      | false ↦ later (find t is) (found_item t is)
    ]
  where
    later : (o : Option Id) → AllByRecursion (λ j. IsTrue (matches_one (map exactly is) j)) (option_to_list o) →
        AllByRecursion (λ j. IsTrue (pattern_matches (exactly i) j || matches_one (map exactly is) j)) (option_to_list o)
    later None h = tt
    later (Some j) h = (or_right (pattern_matches (exactly i) j) _ h.0, tt)

module _ (ids : List Id) where
  entries_read : (term : QueryTerm) → AllByRecursion (IsRead term) (entries_of ids term)
  entries_read (And p) =
      all_mapped (λ i. IsTrue (is_least_match p ids i)) (IsRead (And p)) Some (λ i m. or_left _ _ (first (pattern_matches p i) _ m))
      (filter (is_least_match p ids) ids) (all_pass (is_least_match p ids) ids)
  entries_read (Not p) = elim (list_any (pattern_matches p) ids) as (λ b. AllByRecursion (IsRead (Not p)) (cond b [] (None ∷ [])))
      [ true ↦ tt | false ↦ (tt, tt) ]
  entries_read (Optional i) = elim (has_item id_cmp ids i) as (λ b. AllByRecursion (IsRead (Optional i)) (cond b (Some i) None ∷ []))
      [ true ↦ (or_left _ _ (exact_match i), tt) | false ↦ (tt, tt) ]
  entries_read (Or is) =
      all_mapped (λ i. IsTrue (matches_one (map exactly is) i)) (IsRead (Or is)) Some (λ i m. m) (option_to_list (find (has_item id_cmp ids) is))
      (found_item (has_item id_cmp ids) is)

  pub choices_read : (slots : List QuerySlot) → AllByRecursion (AreRead slots) (choices ids (asked slots))
  choices_read [] = (tt, tt)
  choices_read (s ∷ ss) =
      all_gathered (IsRead s.term) (AreRead (s ∷ ss)) (λ e. map (λ rest. e ∷ rest) (choices ids (asked ss)))
      (λ e read. all_mapped (AreRead ss) (AreRead (s ∷ ss)) (λ rest. e ∷ rest) (λ rest r. (read, r)) (choices ids (asked ss)) (choices_read ss))
      (entries_of ids s.term) (entries_read s.term)

-- an entry is of no `!` slot, and one of the slot's patterns reads it
pub read_parts : (term : QueryTerm) (i : Id) → IsRead term (Some i)
    → IsTrue (matches_one (patterns_of term) i) × ((p : Pattern) → term ≡ Not p → ⊥)
read_parts (And q) i h = (h, λ p e. cc)
read_parts (Not q) i h = absurd h
read_parts (Optional j) i h = (h, λ p e. cc)
read_parts (Or is) i h = (h, λ p e. cc)
