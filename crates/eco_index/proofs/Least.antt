-- Where no part of a pattern is `_`, no two ids fill it alike, so each id that matches is the least of its filling.
use Rattle.eco_index.proofs.EntriesCommon.{◌≡◌, Bool, true, false, not, ◌&&◌, ◌||◌, cond, List, [], ◌∷◌, refl, sym, ap, ◌∙◌, true≢false}
use Rattle.eco_index.proofs.EntriesCommon.{is_lt, filter, tied_itself, list_any, is_least_match, same_filling, part_matches, pattern_matches, id_cmp, Entity, Id}
use Rattle.eco_index.proofs.EntriesCommon.{Part, Is, Each, Any, Pattern, One, Two, first, second, id_cmp_total, entity_eq_is, has_any_part, is_any, parts_alike}
use Rattle.eco_ids.specs.declared.id.Id.TheVariants as id

same_part : (p : Part) (a b : Entity) → is_any p ≡ false → part_matches p a ≡ true → part_matches p b ≡ true → parts_alike p a b ≡ true → a ≡ b
same_part (Is e) a b none one other alike = sym (entity_eq_is e a one) ∙ entity_eq_is e b other
same_part Each a b none one other alike = entity_eq_is a b alike
same_part Any a b none one other alike = absurd (true≢false none)

neither : (a b : Bool) → (a || b) ≡ false → (a ≡ false) × (b ≡ false)
neither true b h = absurd (true≢false h)
neither false b h = (refl, h)

-- ids that match and fill the pattern alike are the same
same_match : (p : Pattern) (i j : Id) → has_any_part p ≡ false → pattern_matches p i ≡ true → (pattern_matches p j && same_filling p j i) ≡ true → j ≡ i
same_match (One e) (id.One a) (id.One b) none one other = ap id.One (sym (entity_eq_is e b (first _ _ other)) ∙ entity_eq_is e a one)
same_match (One e) (id.One a) (id.Two r t) none one other = absurd (true≢false (sym other))
same_match (One e) (id.Two r t) j none one other = absurd (true≢false (sym one))
same_match (Two p q) (id.One a) j none one other = absurd (true≢false (sym one))
same_match (Two p q) (id.Two r t) (id.One b) none one other = absurd (true≢false (sym other))
same_match (Two p q) (id.Two r t) (id.Two s u) none one other =
    let parts = neither (is_any p) (is_any q) none in
    let matches = first _ _ other in
    let alike = second _ _ other in
    ap (λ x. id.Two x u) (same_part p s r parts.0 (first _ _ matches) (first _ _ one) (first _ _ alike))
    ∙ ap (id.Two r) (same_part q u t parts.1 (second _ _ matches) (second _ _ one) (second _ _ alike))

none_less : (p : Pattern) (i j : Id) → has_any_part p ≡ false → pattern_matches p i ≡ true
    → (is_lt (id_cmp j i) && (pattern_matches p j && same_filling p j i)) ≡ false
none_less p i j none one = by (pattern_matches p j && same_filling p j i) refl (is_lt (id_cmp j i)) refl
  where
    by : (b : Bool) → (pattern_matches p j && same_filling p j i) ≡ b → (c : Bool) → is_lt (id_cmp j i) ≡ c → (c && b) ≡ false
    by false e true h = refl
    by false e false h = refl
    by true e false h = refl
    by true e true h =
        absurd (true≢false (sym h ∙ ap (λ k. is_lt (id_cmp k i)) (same_match p i j none one e) ∙ ap is_lt (tied_itself id_cmp_total i)))

none_of : (t : Id → Bool) (ids : List Id) → ((j : Id) → t j ≡ false) → list_any t ids ≡ false
none_of t [] h = refl
none_of t (j ∷ ids) h = ap (λ b. b || list_any t ids) (h j) ∙ none_of t ids h

least_is : (p : Pattern) (ids : List Id) (i : Id) → has_any_part p ≡ false → is_least_match p ids i ≡ pattern_matches p i
least_is p ids i none = by (pattern_matches p i) refl
  where
    by : (b : Bool) → pattern_matches p i ≡ b
        → (b && not (list_any (λ j. is_lt (id_cmp j i) && (pattern_matches p j && same_filling p j i)) ids)) ≡ b
    by false e = refl
    by true e = ap not (none_of _ ids (λ j. none_less p i j none e))

pub matches_least : (p : Pattern) (ids xs : List Id) → has_any_part p ≡ false → filter (pattern_matches p) xs ≡ filter (is_least_match p ids) xs
matches_least p ids [] none = refl
matches_least p ids (i ∷ xs) none =
    ap (λ zs. cond (pattern_matches p i) (i ∷ zs) zs) (matches_least p ids xs none)
    ∙ ap (λ b. cond b (i ∷ filter (is_least_match p ids) xs) (filter (is_least_match p ids) xs)) (sym (least_is p ids i none))
