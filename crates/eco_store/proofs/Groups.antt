-- A type that fulfils all slots has an id for each that asks for something to be there.
use Rattle.eco_store.proofs.AnswersCommon.{◌≡◌, ℕ, zero, suc, ◌+◌, ◌<◌, nat_eq, nat_tests, Bool, true, false, true≢false, cond, ◌&&◌, ◌||◌}
use Rattle.eco_store.proofs.AnswersCommon.{IsTrue, List, [], ◌∷◌, map, filter, length, slice_get, length-map, none-some, same_Some, option_copied, Bor, Option}
use Rattle.eco_store.proofs.AnswersCommon.{Some, None, refl, sym, ap, ◌∙◌, subst, arith, list_any, option_to_list, AllByRecursion, has_item, id_cmp}
use Rattle.eco_store.proofs.AnswersCommon.{pattern_matches, is_least_match, same_filling, is_le, is_lt, ordering_reverse, not, ◌⊎◌, inl, inr, find}
use Rattle.eco_store.proofs.AnswersCommon.{All-from_recursion, QueryTerm, And, Not, Optional, Or, Id, entity_eq, id_eq, Pattern, both, first, less, second}
use Rattle.eco_store.proofs.AnswersCommon.{id_cmp_total, same_id, Slot, QuerySlot, exactly, has_any, holds, is_positive, matches_type, patterns_of, slot_view}
use Rattle.eco_store.proofs.AnswersCommon.{term_view, AreNeeded, group_at, type_matches_one, asked, asks, groups_of, number_after, others_hold}
use Rattle.eco_ids.proofs.Facts.{any_is, id_eq_is, id_eq_itself, or_left, or_right}
use Rattle.eco_ids.proofs.Listable.{IsLeastOf, decide_bool, item_in, least_of}
use Rattle.eco_ids.proofs.Overlaps.{entity_eq_is, entity_eq_itself}
use Rattle.eco_index.specs.IdIndex.{any_matches}
use Rattle.eco_store.proofs.Answered.{asks_asked}
use Rattle.eco_ids.specs.declared.id.Id.TheVariants as id

-- there is one of those that pass where some item passes
any-filter : {X Y : Type 0} (f : X → Y) (p : X → Bool) (xs : List X) → has_any (map f (filter p xs)) ≡ list_any p xs
any-filter f p [] = refl
any-filter f p (x ∷ xs) = by (any-filter f p xs) (p x)
  where
    by : has_any (map f (filter p xs)) ≡ list_any p xs → (b : Bool) → has_any (map f (cond b (x ∷ filter p xs) (filter p xs))) ≡ (b || list_any p xs)
    by rest true = refl
    by rest false = rest

-- what is among those that pass two tests passes the first
any_filtered : {X Y : Type 0} (f : X → Y) (p q : X → Bool) (xs : List X) → has_any (map f (filter (λ x. p x && q x) xs)) ≡ true
    → list_any p xs ≡ true
any_filtered f p q xs h =
    let some = any_is (λ x. p x && q x) xs (sym (any-filter f (λ x. p x && q x) xs) ∙ h) in some.2 p (first (p some.0) (q some.0) some.1)

exactly_itself : (i : Id) → pattern_matches (exactly i) i ≡ true
exactly_itself (id.One e) = entity_eq_itself e
exactly_itself (id.Two r t) = rw (entity_eq_itself r, entity_eq_itself t) refl

-- a list that has an id has an item that passes whatever the id passes
item_passes : (ids : List Id) (i : Id) (t : Id → Bool) → has_item id_cmp ids i ≡ true → t i ≡ true → list_any t ids ≡ true
item_passes ids i t there passes = let own = any_is (λ j. id_eq j i) ids there in own.2 t (ap t (id_eq_is own.0 i own.1) ∙ passes)

-- so the pattern that the id alone matches
has_exactly : (ids : List Id) (i : Id) → has_item id_cmp ids i ≡ true → any_matches ids (exactly i) ≡ true
has_exactly ids i there = item_passes ids i (pattern_matches (exactly i)) there (exactly_itself i)

found_matches : (ids is : List Id) → has_any (map (λ (i : Id). Some i) (option_to_list (find (has_item id_cmp ids) is))) ≡ true
    → list_any (any_matches ids) (map exactly is) ≡ true
found_matches ids [] h = h
found_matches ids (i ∷ is) h = by (found_matches ids is) (has_item id_cmp ids i) refl h
  where
    by : (has_any (map (λ (i : Id). Some i) (option_to_list (find (has_item id_cmp ids) is))) ≡ true
        → list_any (any_matches ids) (map exactly is) ≡ true)
        → (b : Bool) → has_item id_cmp ids i ≡ b
        → has_any (map (λ (i : Id). Some i) (option_to_list (cond (has_item id_cmp ids i) (Some i) (find (has_item id_cmp ids) is)))) ≡ true
        → (any_matches ids (exactly i) || list_any (any_matches ids) (map exactly is)) ≡ true
    by rest true e h = or_left (any_matches ids (exactly i)) _ (has_exactly ids i e)
    by rest false e h = or_right (any_matches ids (exactly i)) _
        (rest (ap (λ c. has_any (map (λ (i : Id). Some i) (option_to_list (cond c (Some i) (find (has_item id_cmp ids) is))))) (sym e) ∙ h))

-- where a slot that asks for something to be there holds, one of its patterns matches
held_matches : (ids : List Id) (t : QueryTerm) → is_positive t ≡ true → holds ids t ≡ true → type_matches_one (patterns_of t) ids ≡ true
held_matches ids (And p) pos h = or_left (any_matches ids p) false (any_filtered (λ i. Some i) (pattern_matches p) _ ids h)
held_matches ids (Not p) pos h = absurd (true≢false (sym pos))
held_matches ids (Optional i) pos h = absurd (true≢false (sym pos))
held_matches ids (Or is) pos h = found_matches ids is h

needed_by : (ids : List Id) (q : List QuerySlot) → matches_type ids q ≡ true → AllByRecursion (λ ps. IsTrue (type_matches_one ps ids)) (groups_of q)
needed_by ids [] h = tt
needed_by ids (s ∷ q) h = by (needed_by ids q (second (holds ids s.term) (matches_type ids q) h)) (is_positive s.term) refl
  where
    by : AllByRecursion (λ ps. IsTrue (type_matches_one ps ids)) (groups_of q) → (b : Bool) → is_positive s.term ≡ b
        → AllByRecursion (λ ps. IsTrue (type_matches_one ps ids))
        (map (λ (s : QuerySlot). patterns_of s.term) (cond b (s ∷ filter (λ s. is_positive s.term) q) (filter (λ s. is_positive s.term) q)))
    by rest true e = (held_matches ids s.term e (first (holds ids s.term) (matches_type ids q) h), rest)
    by rest false e = rest

-- each type that fulfils all slots has, for each group, an id that one of its patterns matches
pub groups_needed : (q : List QuerySlot) → AreNeeded (λ ids. matches_type ids q) (groups_of q)
groups_needed q = λ ids h. All-from_recursion (λ ps. IsTrue (type_matches_one ps ids)) (groups_of q) (needed_by ids q h)

-- ---- the groups of the code's own slots

pub groups_view : (slots : List Slot)
    → groups_of (map slot_view slots) ≡ map (λ s. patterns_of (term_view s.term)) (filter (λ s. is_positive (term_view s.term)) slots)
groups_view [] = refl
groups_view (s ∷ slots) = by (groups_view slots) (is_positive (term_view s.term))
  where
    by : groups_of (map slot_view slots) ≡ map (λ s. patterns_of (term_view s.term)) (filter (λ s. is_positive (term_view s.term)) slots) → (b : Bool)
        → map (λ (s : QuerySlot). patterns_of s.term) (cond b (slot_view s ∷ filter (λ s. is_positive s.term) (map slot_view slots))
        (filter (λ s. is_positive s.term) (map slot_view slots)))
        ≡ map (λ s. patterns_of (term_view s.term))
        (cond b (s ∷ filter (λ s. is_positive (term_view s.term)) slots) (filter (λ s. is_positive (term_view s.term)) slots))
    by rest true = ap (λ zs. patterns_of (term_view s.term) ∷ zs) rest
    by rest false = rest

-- some slot asks for something to be there, so there is a group
pub some_group : (q : List QuerySlot) → list_any (λ s. is_positive s.term) q ≡ true → 0 < length (groups_of q)
some_group [] h = absurd (true≢false (sym h))
some_group (s ∷ q) h = by (some_group q) (is_positive s.term) h
  where
    by : (list_any (λ s. is_positive s.term) q ≡ true → 0 < length (groups_of q)) → (b : Bool) → (b || list_any (λ s. is_positive s.term) q) ≡ true
        → 0 < length (map (λ (s : QuerySlot). patterns_of s.term) (cond b (s ∷ filter (λ s. is_positive s.term) q) (filter (λ s. is_positive s.term) q)))
    by rest true h = omega arith
    by rest false h = rest h

-- the slots that ask for something to be there
abbrev pub positives : List Slot → List Slot
positives slots = filter (λ s. is_positive (term_view s.term)) slots

pub groups_length : (slots : List Slot) → length (positives slots) ≡ length (groups_of (map slot_view slots))
groups_length slots = sym (ap length (groups_view slots) ∙ length-map (positives slots) (λ s. patterns_of (term_view s.term)))

-- the group at a place is what the slot there reads
pub group_is : (slots : List Slot) (q : List QuerySlot) → map slot_view slots ≡ q → (k : ℕ) (o : Option (Bor Slot))
    → option_copied o ≡ slice_get (positives slots) k
    → k < length (groups_of q) → (s : Bor Slot) × (o ≡ Some s) × (group_at (groups_of q) k ≡ patterns_of (term_view s.now.term))
group_is slots q same k o at there =
    let own : k < length (positives slots) = subst (λ n. k < n) (sym (groups_length slots ∙ ap (λ q. length (groups_of q)) same)) there in
    let found = go (positives slots) k o at own in
    (found.0, found.1, subst (λ q. group_at (groups_of q) k ≡ patterns_of (term_view found.0.now.term)) same (rw groups_view found.2))
  where
    go : (ss : List Slot) (k : ℕ) (o : Option (Bor Slot)) → option_copied o ≡ slice_get ss k → k < length ss
        → (s : Bor Slot) × (o ≡ Some s) × (group_at (map (λ s. patterns_of (term_view s.term)) ss) k ≡ patterns_of (term_view s.now.term))
    go [] k o at there = absurd (omega (arith, there))
    go (t ∷ ss) zero None at there = absurd (none-some _ at)
    go (t ∷ ss) zero (Some s) at there = (s, refl, ap (λ (x : Slot). patterns_of (term_view x.term)) (sym (same_Some s.now t at)))
    go (t ∷ ss) (suc k) o at there = go ss k o at (omega (arith, there))

-- a plain term has an entry where its pattern matches some id: the least of those
plain_holds : (ids : List Id) (p : Pattern) → any_matches ids p ≡ true → holds ids (And p) ≡ true
plain_holds ids p found =
    any-filter (λ i. Some i) (is_least_match p ids) ids
    ∙ by (least_of id_cmp_total (λ i. IsTrue (is_match i)) (λ i. decide_bool (is_match i)) ids (λ i m. item_in same_id ids i (first _ _ m)))
  where
    is_match : Id → Bool
    is_match i = has_item id_cmp ids i && pattern_matches p i

    -- where one item passes, it is one of the ids
    among : (t : Id → Bool) → list_any t ids ≡ true → (i : Id) × (t i ≡ true) × (has_item id_cmp ids i ≡ true)
    among t h = let own = any_is t ids h in (own.0, own.1, own.2 (λ j. id_eq j own.0) (id_eq_itself own.0))

    not_less : (i j : Id) → is_le (id_cmp i j) ≡ true → is_lt (id_cmp j i) ≡ true → ⊥
    not_less i j le lt = true≢false (sym le ∙ ap is_le (id_cmp_total.antisymm i j ∙ ap ordering_reverse (less _ lt)))

    -- none of the others with its filling is less
    none_less : (i : Id) → ((j : Id) → is_match j ≡ true → is_le (id_cmp i j) ≡ true) → (b : Bool)
        → list_any (λ j. is_lt (id_cmp j i) && (pattern_matches p j && same_filling p j i)) ids ≡ b → not b ≡ true
    none_less i least false none = refl
    none_less i least true some =
        let one = among _ some in
        let lt = first (is_lt (id_cmp one.0 i)) _ one.1 in
        let matches = first (pattern_matches p one.0) _ (second (is_lt (id_cmp one.0 i)) _ one.1) in
        absurd (not_less i one.0 (least one.0 (both _ _ one.2 matches)) lt)

    by : ((i : Id) × IsLeastOf id_cmp (λ i. IsTrue (is_match i)) i) ⊎ ((i : Id) → IsTrue (is_match i) → ⊥)
        → list_any (is_least_match p ids) ids ≡ true
    by (inl l) = item_passes ids l.0 (is_least_match p ids) (first _ _ l.1.passes)
        (both _ _ (second (has_item id_cmp ids l.0) _ l.1.passes) (none_less l.0 l.1.least _ refl))
    by (inr none) = let one = among (pattern_matches p) found in absurd (none one.0 (both _ _ one.2 one.1))

-- ---- the slot that makes a group holds where one of its patterns matches

-- the pattern that an id alone matches matches no other
exactly_is : (i j : Id) → pattern_matches (exactly i) j ≡ true → i ≡ j
exactly_is (id.One e) (id.One f) h = ap id.One (entity_eq_is e f h)
exactly_is (id.One e) (id.Two r t) h = absurd (true≢false (sym h))
exactly_is (id.Two r t) (id.One e) h = absurd (true≢false (sym h))
exactly_is (id.Two r t) (id.Two s u) h =
    ap (λ x. id.Two x t) (entity_eq_is r s (first (entity_eq r s) _ h)) ∙ ap (id.Two s) (entity_eq_is t u (second (entity_eq r s) _ h))

matched_has : (ids : List Id) (i : Id) → any_matches ids (exactly i) ≡ true → has_item id_cmp ids i ≡ true
matched_has ids i h =
    let own = any_is (pattern_matches (exactly i)) ids h in
    own.2 (λ j. id_eq j i) (subst (λ j. id_eq j i ≡ true) (exactly_is i own.0 own.1) (id_eq_itself i))

one_holds : (ids is : List Id) → list_any (any_matches ids) (map exactly is) ≡ true
    → has_any (map (λ (i : Id). Some i) (option_to_list (find (has_item id_cmp ids) is))) ≡ true
one_holds ids [] h = h
one_holds ids (i ∷ is) h = by (one_holds ids is) (has_item id_cmp ids i) refl
  where
    other : (a b : Bool) → (a || b) ≡ true → (a ≡ true → ⊥) → b ≡ true
    other true b h absent = absurd (absent refl)
    other false b h absent = h

    by : (list_any (any_matches ids) (map exactly is) ≡ true
        → has_any (map (λ (i : Id). Some i) (option_to_list (find (has_item id_cmp ids) is))) ≡ true)
        → (b : Bool) → has_item id_cmp ids i ≡ b
        → has_any (map (λ (i : Id). Some i) (option_to_list (cond b (Some i) (find (has_item id_cmp ids) is)))) ≡ true
    by rest true e = refl
    by rest false e = rest (other (any_matches ids (exactly i)) _ h (λ m. true≢false (sym (matched_has ids i m) ∙ e)))

found_holds : (ids : List Id) (t : QueryTerm) → is_positive t ≡ true → type_matches_one (patterns_of t) ids ≡ true → holds ids t ≡ true
found_holds ids (And p) pos h = plain_holds ids p (alone (any_matches ids p) h)
  where
    alone : (b : Bool) → (b || false) ≡ true → b ≡ true
    alone true h = refl
    alone false h = h
found_holds ids (Not p) pos h = absurd (true≢false (sym pos))
found_holds ids (Optional i) pos h = absurd (true≢false (sym pos))
found_holds ids (Or is) pos h = one_holds ids is h

-- ---- the others

-- behind the slot that makes the group all are asked
asked_behind : (ids : List Id) (q : List QuerySlot) (n g : ℕ) → g < n → others_hold ids (asked q) n g ≡ matches_type ids q
asked_behind ids [] n g lt = refl
asked_behind ids (s ∷ q) n g lt =
    let apart : nat_eq n g ≡ false = grind (arith, nat_tests) in
    ap (λ b. ((b && is_positive s.term) || holds ids s.term) && others_hold ids (asked q) (number_after n s.term) g) apart
    ∙ ap (λ b. holds ids s.term && b) (asked_behind ids q (number_after n s.term) g (later (is_positive s.term)))
  where
    later : (b : Bool) → g < cond b (n + 1) n
    later true = omega (arith, lt)
    later false = lt

others_found : (ids : List Id) (q : List QuerySlot) (n k : ℕ) → k < length (groups_of q) → type_matches_one (group_at (groups_of q) k) ids ≡ true
    → others_hold ids (asked q) n (n + k) ≡ matches_type ids q
others_found ids [] n k there found = absurd (omega (arith, there))
others_found ids (s ∷ q) n k there found = by (others_found ids q) k (is_positive s.term) refl there found
  where
    groups : Bool → List (List Pattern)
    groups b =
        map (λ (s : QuerySlot). patterns_of s.term) (cond b (s ∷ filter (λ s. is_positive s.term) q) (filter (λ s. is_positive s.term) q))

    neither : (b : Bool) → (b && false) ≡ false
    neither true = refl
    neither false = refl

    by : ((n k : ℕ) → k < length (groups_of q) → type_matches_one (group_at (groups_of q) k) ids ≡ true
        → others_hold ids (asked q) n (n + k) ≡ matches_type ids q)
        → (k : ℕ) (b : Bool) → is_positive s.term ≡ b → k < length (groups b) → type_matches_one (group_at (groups b) k) ids ≡ true
        → (((nat_eq n (n + k) && b) || holds ids s.term) && others_hold ids (asked q) (cond b (n + 1) n) (n + k)) ≡ (holds ids s.term && matches_type ids q)
    by rest zero true e there found =
        let own : nat_eq n (n + 0) ≡ true = grind (arith, nat_tests) in
        ap (λ b. ((b && true) || holds ids s.term) && others_hold ids (asked q) (n + 1) (n + 0)) own
        ∙ asked_behind ids q (n + 1) (n + 0) (omega arith)
        ∙ ap (λ b. b && matches_type ids q) (sym (found_holds ids s.term e found))
    by rest (suc k) true e there found =
        let apart : nat_eq n (n + suc k) ≡ false = grind (arith, nat_tests) in
        let place : n + suc k ≡ n + 1 + k = omega arith in
        ap (λ b. ((b && true) || holds ids s.term) && others_hold ids (asked q) (n + 1) (n + suc k)) apart
        ∙ ap (λ j. holds ids s.term && others_hold ids (asked q) (n + 1) j) place
        ∙ ap (λ b. holds ids s.term && b) (rest (n + 1) k (omega (arith, there)) found)
    by rest k false e there found =
        ap (λ b. (b || holds ids s.term) && others_hold ids (asked q) n (n + k)) (neither (nat_eq n (n + k)))
        ∙ ap (λ b. holds ids s.term && b) (rest n k there found)

-- a type that a pattern of a group has found is asked for what the other slots say
pub others_suffice : (slots : List Slot) (q : List QuerySlot) → map slot_view slots ≡ q → (k : ℕ) (ids : List Id) → k < length (groups_of q)
    → type_matches_one (group_at (groups_of q) k) ids ≡ true → others_hold ids (asks slots) 0 k ≡ matches_type ids q
others_suffice slots q same k ids there found =
    let place : k ≡ 0 + k = omega arith in
    ap (λ ts. others_hold ids ts 0 k) (asks_asked slots q same) ∙ ap (others_hold ids (asked q) 0) place ∙ others_found ids q 0 k there found
