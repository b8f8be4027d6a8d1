-- The forms of a test of types.
use Rattle.eco_index.proofs.Common.{◌≡◌, ℕ, zero, suc, ◌<◌, Bool, true, false, ◌||◌, List, [], ◌∷◌, length, get_or, refl, sym, ap}
use Rattle.eco_index.proofs.Common.{◌∙◌, arith, list_any, Entity, Id, Is, Any, Pattern, entity_eq, names_entity, first, second, any_matches}
use Rattle.eco_ids.specs.declared.pattern.Pattern.TheVariants.{One, Two}
use Rattle.eco_ids.specs.Matching.{pattern_matches}
use Rattle.eco_index.specs.TypeTests.{type_names, AreNeeded, each_alone, group_at, matches_each, type_matches_one, naming}
use Rattle.eco_index.proofs.Keys.{and_true, or_false}
use Rattle.eco_ids.proofs.Facts.{entity_eq_sym, neither}
use Rattle.eco_ids.specs.declared.id.Id.TheVariants as id

one_pattern : (p : Pattern) (ids : List Id) → type_matches_one (p ∷ []) ids ≡ list_any (pattern_matches p) ids
one_pattern p ids = or_false (any_matches ids p)

-- of a test with one group
pub one_group : (test : List Id → Bool) (ps : List Pattern) → ((ids : List Id) → type_matches_one ps ids ≡ test ids) → AreNeeded test (ps ∷ [])
one_group test ps is ids passes zero d within = is ids ∙ passes
one_group test ps is ids passes (suc k) d within = absurd (omega (arith, within))

-- what its patterns find passes
pub only_group : (test : List Id → Bool) (ps : List Pattern) (k : ℕ) (ids : List Id) → ((ids : List Id) → type_matches_one ps ids ≡ test ids)
    → k < length (ps ∷ []) → type_matches_one (group_at (ps ∷ []) k) ids ≡ true → true ≡ test ids
only_group test ps zero ids is within found = sym (sym (is ids) ∙ found)
only_group test ps (suc k) ids is within found = absurd (omega (arith, within))

name_matches : (e : Entity) (i : Id)
    → names_entity i e ≡ (pattern_matches (One e) i || (pattern_matches (Two (Is e) Any) i || pattern_matches (Two Any (Is e)) i))
name_matches e (id.One x) = entity_eq_sym x e ∙ sym (or_false (entity_eq e x))
name_matches e (id.Two r t) = (λ k. entity_eq_sym r e k || entity_eq_sym t e k) ∙ sym (ap (λ b. b || entity_eq e t) (and_true (entity_eq e r)))

shuffled : (a b c x y z : Bool) → ((a || x) || ((b || y) || ((c || z) || false))) ≡ ((a || (b || c)) || (x || (y || (z || false))))
shuffled true b c x y z = refl
shuffled false true c true y z = refl
shuffled false true c false y z = refl
shuffled false false true true y z = refl
shuffled false false true false true z = refl
shuffled false false true false false z = refl
shuffled false false false x y z = refl

pub names_match : (e : Entity) (ids : List Id) → type_matches_one (naming e) ids ≡ type_names ids e
names_match e [] = refl
names_match e (i ∷ ids) =
    shuffled (pattern_matches (One e) i) (pattern_matches (Two (Is e) Any) i) (pattern_matches (Two Any (Is e)) i)
    (any_matches ids (One e)) (any_matches ids (Two (Is e) Any)) (any_matches ids (Two Any (Is e)))
    ∙ (λ k. sym (name_matches e i) k || names_match e ids k)

-- whom no id names, no pattern of his matches
pub nobody_matched : (e : Entity) (ids : List Id) → type_names ids e ≡ false
    → (any_matches ids (One e) ≡ false) × (any_matches ids (Two Any (Is e)) ≡ false)
nobody_matched e ids none =
    let parts = neither _ _ (names_match e ids ∙ none) in
    (parts.0, (neither _ _ (neither _ _ parts.1).1).0)

-- each pattern of a test of them all is needed
pub each_needed : (ps : List Pattern) → AreNeeded (matches_each ps) (each_alone ps)
each_needed [] ids passes k d within = absurd (omega (arith, within))
each_needed (p ∷ ps) ids passes zero d within = one_pattern p ids ∙ first (any_matches ids p) (matches_each ps ids) passes
each_needed (p ∷ ps) ids passes (suc k) d within = each_needed ps ids (second (any_matches ids p) (matches_each ps ids) passes) k d (omega (arith, within))

pub alone_at : (ps : List Pattern) (k : ℕ) (d : Pattern) → k < length (each_alone ps) → group_at (each_alone ps) k ≡ get_or ps k d ∷ []
alone_at [] k d within = absurd (omega (arith, within))
alone_at (p ∷ ps) zero d within = refl
alone_at (p ∷ ps) (suc k) d within = alone_at ps k d (omega (arith, within))
