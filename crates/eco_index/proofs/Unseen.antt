-- In an ascending list the least match of a filling is the first: an id is one exactly where its filling has not been seen before.
use Rattle.eco_index.proofs.EntriesCommon.{◌≡◌, ℕ, zero, suc, ◌+◌, ◌<◌, Bool, true, false, not, ◌&&◌, ◌||◌, List, [], ◌∷◌, length}
use Rattle.eco_index.proofs.EntriesCommon.{get_or, take, refl, sym, ap, ◌∙◌, true≢false, arith, le_of_suc-le-suc, is_lt, is_eq, Ordering, Less, Equal}
use Rattle.eco_index.proofs.EntriesCommon.{Greater, IsTrue, tied_itself, list_any, list_all, list_any_more, is_least_match, same_filling, pattern_matches}
use Rattle.eco_index.proofs.EntriesCommon.{entity_cmp, id_cmp, is_ascending, Entity, Id, Part, Is, Each, Any, Pattern, One, Two, first, second, less, all_at}
use Rattle.eco_index.proofs.EntriesCommon.{id_cmp_total, parts_alike, asked_for, filling, fills, HasSeen, SeesMore, is_seen}
use Rattle.std.specs.Ordering.{ordering_then, ordering_reverse}
use Rattle.eco_index.specs.declared.seen.Seen.{Seen}
use Rattle.eco_ids.specs.declared.id.Id.TheVariants as id

not_below : (x y : Id) → IsTrue (is_lt (id_cmp x y)) → is_lt (id_cmp y x) ≡ false
not_below x y h = ap is_lt (id_cmp_total.antisymm y x ∙ ap ordering_reverse (less _ h))

none_below : (t : Id → Bool) (x : Id) (xs : List Id) → IsTrue (list_all (λ y. is_lt (id_cmp x y)) xs)
    → list_any (λ j. is_lt (id_cmp j x) && t j) xs ≡ false
none_below t x [] h = refl
none_below t x (y ∷ ys) h = ap (λ b. (b && t y) || list_any (λ j. is_lt (id_cmp j x) && t j) ys) (not_below x y (first _ _ h)) ∙ none_below t x ys
    (second _ _ h)

-- those below an id of an ascending list are those before it
pub below_before : (t : Id → Bool) (ids : List Id) (k : ℕ) (d : Id) → IsTrue (is_ascending id_cmp ids) → k < length ids
    → list_any (λ j. is_lt (id_cmp j (get_or ids k d)) && t j) ids ≡ list_any t (take k ids)
below_before t [] k d up here = absurd (omega arith)
below_before t (x ∷ xs) zero d up here =
    ap (λ b. (b && t x) || list_any (λ j. is_lt (id_cmp j x) && t j) xs) (ap is_lt (tied_itself id_cmp_total x))
    ∙ none_below t x xs (first _ _ up)
below_before t (x ∷ xs) (suc k) d up here =
    let l = le_of_suc-le-suc here in
    ap (λ b. (b && t x) || list_any (λ j. is_lt (id_cmp j (get_or xs k d)) && t j) xs) (all_at (λ y. is_lt (id_cmp x y)) xs (first _ _ up) k d l)
    ∙ ap (λ b. t x || b) (below_before t xs k d (second _ _ up) l)

both_tied : (a b : Ordering) → (is_eq a && is_eq b) ≡ is_eq (ordering_then a b)
both_tied Less b = refl
both_tied Equal b = refl
both_tied Greater b = refl

part_fills : (p : Part) (a b : Entity) → parts_alike p a b ≡ is_eq (entity_cmp (asked_for p a) (asked_for p b))
part_fills (Is e) a b = refl
part_fills Each a b = refl
part_fills Any a b = refl

-- an id that matches fills the pattern as another does exactly where their fillings are one
same_fills : (p : Pattern) (i j : Id) → pattern_matches p i ≡ true → (pattern_matches p j && same_filling p j i) ≡ fills p (filling p i) j
same_fills (One e) i j one = refl
same_fills (Two p q) (id.One a) j one = absurd (true≢false (sym one))
same_fills (Two p q) (id.Two r t) (id.One b) one = refl
same_fills (Two p q) (id.Two r t) (id.Two s u) one =
    ap (λ b. pattern_matches (Two p q) (id.Two s u) && b)
    (ap (λ b. b && parts_alike q u t) (part_fills p s r)
    ∙ ap (λ b. is_eq (entity_cmp (asked_for p s) (asked_for p r)) && b) (part_fills q u t)
    ∙ both_tied (entity_cmp (asked_for p s) (asked_for p r)) (entity_cmp (asked_for q u) (asked_for q t)))

any_same : (f g : Id → Bool) → ((j : Id) → f j ≡ g j) → (xs : List Id) → list_any f xs ≡ list_any g xs
any_same f g h [] = refl
any_same f g h (x ∷ xs) = ap (λ b. b || list_any f xs) (h x) ∙ ap (λ b. g x || b) (any_same f g h xs)

module _ (p : Pattern) (ids : List Id) (k : ℕ) (d : Id) (here : k < length ids) where
  pub least_is_first : (seen : Seen) → IsTrue (is_ascending id_cmp ids) → HasSeen p (take k ids) seen
      → is_least_match p ids (get_or ids k d) ≡ (pattern_matches p (get_or ids k d) && not (is_seen seen (filling p (get_or ids k d))))
  least_is_first seen up has = by (pattern_matches p (get_or ids k d)) refl
    where
      less_here : Bool
      less_here = list_any (λ j. is_lt (id_cmp j (get_or ids k d)) && (pattern_matches p j && same_filling p j (get_or ids k d))) ids

      by : (b : Bool) → pattern_matches p (get_or ids k d) ≡ b
          → (b && not less_here) ≡ (b && not (is_seen seen (filling p (get_or ids k d))))
      by false e = refl
      by true e =
          ap not
          (below_before (λ j. pattern_matches p j && same_filling p j (get_or ids k d)) ids k d up here
          ∙ any_same _ _ (λ j. same_fills p (get_or ids k d) j e) (take k ids)
          ∙ sym (has (filling p (get_or ids k d))))

  pub seen_more : (old new : Seen) → HasSeen p (take k ids) old → SeesMore p (get_or ids k d) old new → HasSeen p (take (k + 1) ids) new
  seen_more old new has more = λ x.
      more x ∙ ap (λ b. b || fills p x (get_or ids k d)) (has x) ∙ sym (list_any_more (fills p x) ids k d here)
