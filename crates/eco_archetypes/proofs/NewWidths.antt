-- How wide an id is in the tables that have it.
use Rattle.eco_archetypes.proofs.Common.{◌≡◌, ◌≤◌, ℕ, Bool, true, false, true≢false, cond, ◌||◌, IsTrue, IsSome, List, [], ◌∷◌}
use Rattle.eco_archetypes.proofs.Common.{Option, None, Some, unwrap_or, option_map, refl, sym, ap, ◌∙◌, arith, find, list_any, Id, id_cmp, id_eq}
use Rattle.eco_archetypes.proofs.Common.{has_item, id_eq_sym, or_right, TableState, paired, width_in, slot_of, table_in, no_table, exactly, any_matches}
use Rattle.eco_archetypes.proofs.Common.{type_at, type_matches, AreAgreed, IsWidth}
use Rattle.eco_ids.specs.declared.value.TheConstants.{FIELD_COUNT}
use Rattle.eco_ids.specs.Matching.{pattern_matches}
use Rattle.eco_ids.proofs.Pairs.{parts_are_same}
use Rattle.eco_ids.specs.declared.id.Id.TheVariants as id

matches_exactly : (i j : Id) → pattern_matches (exactly i) j ≡ id_eq i j
matches_exactly (id.One e) (id.One x) = refl
matches_exactly (id.One e) (id.Two s u) = refl
matches_exactly (id.Two r t) (id.One x) = refl
matches_exactly (id.Two r t) (id.Two s u) = parts_are_same r t s u

-- a type with an id has one that only it matches
pub has_exactly : (ids : List Id) (i : Id) → any_matches ids (exactly i) ≡ has_item id_cmp ids i
has_exactly ids i = ap (λ (t : Id → Bool). list_any t ids) (λ t j. (matches_exactly i j ∙ id_eq_sym i j) t)

paired_has : (ids : List Id) (ws : List ℕ) (i : Id) (k : ℕ) → find id_cmp i (paired ids ws) ≡ Some k → IsTrue (has_item id_cmp ids i)
paired_has [] ws i k e = absurd (cc)
paired_has (j ∷ js) [] i k e = absurd (cc)
paired_has (j ∷ js) (w ∷ ws) i k e = by (id_eq i j) (id_eq_sym j i) (paired_has js ws i k) e
  where
    by : (b : Bool) → id_eq j i ≡ b → (find id_cmp i (paired js ws) ≡ Some k → IsTrue (has_item id_cmp js i))
        → cond b (Some w) (find id_cmp i (paired js ws)) ≡ Some k → IsTrue (id_eq j i || has_item id_cmp js i)
    by true same rest h = ap (λ b. b || has_item id_cmp js i) same
    by false same rest h = or_right (id_eq j i) (has_item id_cmp js i) (rest h)

-- a slot that is listed under an id has a table whose type has it
pub listed_has : (s : List (Option TableState)) (n : ℕ) (i : Id) → type_matches (type_at s n) (exactly i) ≡ true
    → IsSome (slot_of s n) × IsTrue (has_item id_cmp (table_in s n).ids i)
listed_has s n i = by (slot_of s n)
  where
    by : (o : Option TableState) → type_matches (option_map (λ (t : TableState). t.ids) o) (exactly i) ≡ true
        → IsSome o × IsTrue (has_item id_cmp (unwrap_or o no_table).ids i)
    by None h = absurd (true≢false (sym h))
    by (Some t) h = (refl, sym (has_exactly t.ids i) ∙ h)

width_listed : (s : List (Option TableState)) (n : ℕ) (i : Id) (k : ℕ) → width_in (table_in s n) i ≡ Some k
    → type_matches (type_at s n) (exactly i) ≡ true
width_listed s n i k = by (slot_of s n)
  where
    by : (o : Option TableState) → width_in (unwrap_or o no_table) i ≡ Some k
        → type_matches (option_map (λ (t : TableState). t.ids) o) (exactly i) ≡ true
    by None h = absurd (cc)
    by (Some t) h = has_exactly t.ids i ∙ paired_has t.ids t.widths i k h

-- as wide as in a table that has the id
pub width_as : (need : Id → ℕ) (s : List (Option TableState)) (n : ℕ) (i : Id) (w : ℕ) → AreAgreed s → w ≤ FIELD_COUNT
    → width_in (table_in s n) i ≡ Some w
    → IsWidth need s i w
width_as need s n i w agreed few at = record {
  few = few;
  agrees = λ m k is. agreed m n i k w is at;
  covers = λ covers. covers.each n i w at;
}

-- as wide as the id may need, where no table has it
pub width_new : (need : Id → ℕ) (s : List (Option TableState)) (i : Id) (w : ℕ)
    → ((n : ℕ) → type_matches (type_at s n) (exactly i) ≡ false) → w ≤ FIELD_COUNT
    → w ≡ need i → IsWidth need s i w
width_new need s i w none few is = record {
  few = few;
  agrees = λ n k at. absurd (true≢false (sym (width_listed s n i k at) ∙ none n));
  covers = λ covers. omega (arith, is);
}
