-- The first match of an ascending list, while all that match fill the pattern as it does.
use Rattle.eco_index.proofs.EntriesCommon.{◌≡◌, ◌≢◌, ℕ, ◌+◌, ◌<◌, Bool, true, false, not, ◌&&◌, ◌||◌, cond, List, [], ◌∷◌}
use Rattle.eco_index.proofs.EntriesCommon.{◌++◌, length, get_or, take, drop, refl, sym, ap, ◌∙◌, Option, Some, None, subst, true≢false, arith}
use Rattle.eco_index.proofs.EntriesCommon.{length-append, IfNone, IsTrue, MatchOption, filter, option_to_list, list_any, take-append-drop, filter-append}
use Rattle.eco_index.proofs.EntriesCommon.{filter_more, list_any_more, is_least_match, same_filling, pattern_matches, entity_eq, id_cmp, is_ascending, Entity, Id}
use Rattle.eco_index.proofs.EntriesCommon.{Part, Is, Each, Any, Pattern, One, Two, first, second, entity_eq_is, parts_alike}
use Rattle.eco_index.specs.First.{IsJoinedIf, IsJoined, IsNext, IsOther}
use Rattle.eco_index.proofs.Unseen.{below_before}
use Rattle.eco_ids.specs.declared.id.Id.TheVariants as id

-- the id is one of these
abbrev IsAmong : List Id → Id → Type 0
IsAmong xs i = (t : Id → Bool) → t i ≡ true → list_any t xs ≡ true

-- what fills the pattern otherwise than this id does so otherwise than each of these that matches
abbrev AreAlike : Pattern → List Id → Id → Type 0
AreAlike p xs i = (j : Id) → pattern_matches p j ≡ true → same_filling p i j ≡ false
    → list_any (λ k. pattern_matches p k && same_filling p k j) xs ≡ false

-- the least matches among these are the one that was found, which matches and is one of them, and all that match fill the
-- pattern as it does; no id matches where none was
abbrev pub IsFirst : Pattern → List Id → List Id → Option Id → Type 0
IsFirst p ids front found =
    (filter (is_least_match p ids) front ≡ option_to_list found)
    × MatchOption found (list_any (pattern_matches p) front ≡ false) (λ i. (pattern_matches p i ≡ true) × (IsAmong front i × AreAlike p front i))

none_both : (t s : Id → Bool) (xs : List Id) → list_any t xs ≡ false → list_any (λ j. t j && s j) xs ≡ false
none_both t s [] h = refl
none_both t s (x ∷ xs) h = by (t x) (none_both t s xs) h
  where
    by : (b : Bool) → (list_any t xs ≡ false → list_any (λ j. t j && s j) xs ≡ false) → (b || list_any t xs) ≡ false
        → ((b && s x) || list_any (λ j. t j && s j) xs) ≡ false
    by true rest h = absurd (true≢false h)
    by false rest h = rest h

parts_trans : (p : Part) (a b c : Entity) → parts_alike p a b ≡ true → parts_alike p b c ≡ true → parts_alike p a c ≡ true
parts_trans (Is e) a b c g h = refl
parts_trans Any a b c g h = refl
parts_trans Each a b c g h = subst (λ x. entity_eq x c ≡ true) (sym (entity_eq_is a b g)) h

-- two ids that fill the pattern as one that matches does fill it alike
filling_trans : (p : Pattern) (i k j : Id) → pattern_matches p k ≡ true → same_filling p i k ≡ true → same_filling p k j ≡ true
    → pattern_matches p i ≡ true → pattern_matches p j ≡ true → same_filling p i j ≡ true
filling_trans (One e) i k j one g h n m = refl
filling_trans (Two p q) i (id.One e) j one g h n m = absurd (true≢false (sym one))
filling_trans (Two p q) (id.One a) (id.Two s u) j one g h n m = absurd (true≢false (sym n))
filling_trans (Two p q) (id.Two r t) (id.Two s u) (id.One a) one g h n m = absurd (true≢false (sym m))
filling_trans (Two p q) (id.Two r t) (id.Two s u) (id.Two v w) one g h n m =
    ap (λ b. b && parts_alike q t w) (parts_trans p r s v (first _ _ g) (first _ _ h))
    ∙ parts_trans q t u w (second (parts_alike p r s) _ g) (second (parts_alike p s v) _ h)

-- what always is so is so where there is none
pub if_none : {X : Type 0} {P : Type 0} (o : Option X) → P → IfNone o P
if_none None h = h
if_none (Some x) h = tt

or_true : (b : Bool) → (b || true) ≡ true
or_true true = refl
or_true false = refl

module _ (p : Pattern) (ids : List Id) (k : ℕ) (d : Id) (here : k < length ids) (up : IsTrue (is_ascending id_cmp ids)) where
  -- an id before it fills the pattern as it does
  abbrev alike_before : Bool
  alike_before = list_any (λ j. pattern_matches p j && same_filling p j (get_or ids k d)) (take k ids)

  least : is_least_match p ids (get_or ids k d) ≡ (pattern_matches p (get_or ids k d) && not alike_before)
  least = ap (λ b. pattern_matches p (get_or ids k d) && not b) (below_before (λ j. pattern_matches p j && same_filling p j (get_or ids k d)) ids k d up here)

  -- it is the least of its filling, or not
  more : (old new : List Id) (b : Bool) → filter (is_least_match p ids) (take k ids) ≡ old
      → (pattern_matches p (get_or ids k d) && not alike_before) ≡ b → old ++ cond b (get_or ids k d ∷ []) [] ≡ new
      → filter (is_least_match p ids) (take (k + 1) ids) ≡ new
  more old new b was is are =
      filter_more (is_least_match p ids) ids k d here
      ∙ ap (λ zs. zs ++ cond (is_least_match p ids (get_or ids k d)) (get_or ids k d ∷ []) []) was
      ∙ ap (λ c. old ++ cond c (get_or ids k d ∷ []) []) (least ∙ is)
      ∙ are

  among_more : (i : Id) → IsAmong (take k ids) i → IsAmong (take (k + 1) ids) i
  among_more i is_there t h = list_any_more t ids k d here ∙ ap (λ b. b || t (get_or ids k d)) (is_there t h)

  among_last : IsAmong (take (k + 1) ids) (get_or ids k d)
  among_last t h = list_any_more t ids k d here ∙ ap (λ b. list_any t (take k ids) || b) h ∙ or_true _

  -- an id matches, and fills the pattern as this one does
  abbrev matches_as : Id → Id → Bool
  matches_as j h = pattern_matches p h && same_filling p h j

  none_more : (t : Id → Bool) → list_any t (take k ids) ≡ false → t (get_or ids k d) ≡ false → list_any t (take (k + 1) ids) ≡ false
  none_more t was none = list_any_more t ids k d here ∙ ap (λ b. b || t (get_or ids k d)) was ∙ none

  -- what fills the pattern otherwise than the first match does so otherwise than each that fills it as that does
  apart : (i j : Id) → pattern_matches p i ≡ true → pattern_matches p j ≡ true → pattern_matches p (get_or ids k d) ≡ true
      → same_filling p i (get_or ids k d) ≡ true → same_filling p i j ≡ false
      → (pattern_matches p (get_or ids k d) && same_filling p (get_or ids k d) j) ≡ false
  apart i j n m one alike other = ap (λ b. b && same_filling p (get_or ids k d) j) one ∙ by (same_filling p (get_or ids k d) j) refl
    where
      by : (b : Bool) → same_filling p (get_or ids k d) j ≡ b → b ≡ false
      by false e = refl
      by true e = sym (filling_trans p i (get_or ids k d) j one alike e n m) ∙ other

  passed : pattern_matches p (get_or ids k d) ≡ false → (old : Option Id) → IsFirst p ids (take k ids) old → IsFirst p ids (take (k + 1) ids) old
  passed none None was = (
    more [] [] false was.0 (ap (λ b. b && not alike_before) none) refl,
    list_any_more (pattern_matches p) ids k d here ∙ ap (λ b. b || pattern_matches p (get_or ids k d)) was.1 ∙ none,
  )
  passed none (Some i) was = (
    more (i ∷ []) (i ∷ []) false was.0 (ap (λ b. b && not alike_before) none) refl,
    (was.1.0, (among_more i was.1.1.0, λ j m other. none_more (matches_as j) (was.1.1.1 j m other) (ap (λ b. b && same_filling p (get_or ids k d) j) none))),
  )

  met : pattern_matches p (get_or ids k d) ≡ true → (old new : Option Id) → IsFirst p ids (take k ids) old → IsJoined p (get_or ids k d) old new
      → IsFirst p ids (take (k + 1) ids) new
  met one None new was is =
      subst (IsFirst p ids (take (k + 1) ids)) (sym is) (
        more [] (get_or ids k d ∷ []) true was.0
            (ap (λ b. b && not alike_before) one ∙ ap not (none_both (pattern_matches p) (λ j. same_filling p j (get_or ids k d)) (take k ids) was.1)) refl,
        (
          one,
          (
            among_last,
            λ j m other.
                none_more (matches_as j) (none_both (pattern_matches p) (λ h. same_filling p h j) (take k ids) was.1)
                (ap (λ b. b && same_filling p (get_or ids k d) j) one ∙ other),
          ),
        ),
      )
  met one (Some i) new was is =
      subst (IsFirst p ids (take (k + 1) ids)) (sym is.1) (
        more (i ∷ []) (i ∷ []) false was.0
            (ap (λ b. b && not alike_before) one
            ∙ ap not (was.1.1.0 (λ j. pattern_matches p j && same_filling p j (get_or ids k d))
            (ap (λ b. b && same_filling p i (get_or ids k d)) was.1.0 ∙ is.0))) refl,
        (was.1.0, (among_more i was.1.1.0, λ j m other. none_more (matches_as j) (was.1.1.1 j m other) (apart i j was.1.0 m one is.0 other))),
      )

  -- one more id was looked at
  pub first_more : (old new : Option Id) → IsFirst p ids (take k ids) old → IsNext p (get_or ids k d) old new → IsFirst p ids (take (k + 1) ids) new
  first_more old new was is = by (pattern_matches p (get_or ids k d)) refl is
    where
      by : (b : Bool) → pattern_matches p (get_or ids k d) ≡ b → IsJoinedIf b p (get_or ids k d) old new
          → IsFirst p ids (take (k + 1) ids) new
      by true e is = met e old new was is
      by false e is = subst (IsFirst p ids (take (k + 1) ids)) (sym is) (passed e old was)

  -- an id that fills the pattern otherwise than the first match is another least match
  pub several : (old : Option Id) → IsFirst p ids (take k ids) old → IsOther p (get_or ids k d) old
      → length (filter (is_least_match p ids) ids) ≢ 1
  several None was is = absurd is
  several (Some i) was is = λ one.
      let both = more (i ∷ []) (i ∷ get_or ids k d ∷ []) true was.0
      (ap (λ b. b && not alike_before) is.0 ∙ ap not (was.1.1.1 (get_or ids k d) is.0 is.1)) refl in
      let two : length (filter (is_least_match p ids) (take (k + 1) ids)) ≡ 2 = ap length both in
      let parts = filter-append (is_least_match p ids) (take (k + 1) ids) (drop (k + 1) ids) in
      let whole = ap (λ xs. length (filter (is_least_match p ids) xs)) (take-append-drop (k + 1) ids) in
      let long = length-append (filter (is_least_match p ids) (take (k + 1) ids)) (filter (is_least_match p ids) (drop (k + 1) ids)) in
      let sums = ap length parts in
      omega (arith, one, two, whole, long, sums)
