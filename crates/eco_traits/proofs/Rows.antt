-- A world of rows: each index lives at generation 0, with its ids.
use Rattle.eco_traits.proofs.Common.{◌≡◌, ℕ, zero, suc, ◌+◌, ◌==◌, true, false, ◌||◌, ◌↔◌, inl, inr, List, [], ◌∷◌, map, refl}
use Rattle.eco_traits.proofs.Common.{same_tests, sym, ap, ◌∙◌, true≢false, IsTrue, Option, Some, None, is_some, option_map, slice_get}
use Rattle.eco_traits.proofs.Common.{if◌then◌else◌, list_any, find, Entity, Id, Value, id_cmp, has_item, is_pair_of, is_used, WorldState, Record, has}
use Rattle.eco_traits.proofs.Common.{zeros, record_of, first_world, has_in, or_left, or_parts, or_right, type_of_record, keys, keys_find}
use Rattle.std.proofs.Common.{Bor}
use Rattle.std.specs.Option.{option_copied}
use Rattle.std.specs.Slice.{IsItemAt}
use Rattle.std.proofs.lemmas.Option.{slice_get_past, slice_get-get_or}
use Rattle.std.proofs.lemmas.Bool.Decides.{Decides-eqb}
use Rattle.eco_ids.specs.Indices.{IndexState, Living, living_from, record_in}

abbrev pub with_ids : List Id → Record
with_ids ids = record { name = None; arity = None; held = map (λ i. (i, zeros)) ids }

abbrev pub row_states : List (List Id) → List (IndexState Record)
row_states rows = map (λ ids. Living 0 (with_ids ids)) rows

abbrev pub rows_world : List (List Id) → WorldState
rows_world rows = record (first_world 1048576) { indices = row_states rows }

own_ids : (ids : List Id) → keys (map (λ (i : Id). (i, zeros)) ids) ≡ ids
own_ids [] = refl
own_ids (i ∷ ids) = ap (λ xs. i ∷ xs) (own_ids ids)

row_at : (rows : List (List Id)) (n : ℕ) → slice_get rows n ≡ option_map type_of_record (record_in (slice_get (row_states rows) n) 0)
row_at [] n = refl
row_at (ids ∷ rows) zero = ap Some (sym (own_ids ids))
row_at (ids ∷ rows) (suc n) = row_at rows n

no_row_at : (rows : List (List Id)) (n g : ℕ) → (g == 0) ≡ false → None ≡ option_map type_of_record (record_in (slice_get (row_states rows) n) g)
no_row_at [] n g h = refl
no_row_at (ids ∷ rows) zero g h = ap (λ b. option_map type_of_record (if b then Some (with_ids ids) else None)) (sym h)
no_row_at (ids ∷ rows) (suc n) g h = no_row_at rows n g h

-- what `get` finds
pub found : {X : Type 0} (xs : List X) (i : ℕ) (o : Option (Bor X)) → IsItemAt xs i o → option_copied o ≡ slice_get xs i
found xs i None at = sym (slice_get_past xs i at.3)
found xs i (Some x) at = ap Some at.1 ∙ sym (slice_get-get_or xs i x.now at.3.0)

pub type_at : (rows : List (List Id)) (e : Entity) → e.generation ≡ 0
    → slice_get rows e.index ≡ option_map type_of_record (record_of (rows_world rows) e)
type_at rows e h = row_at rows e.index ∙ ap (λ g. option_map type_of_record (record_in (slice_get (row_states rows) e.index) g)) (sym h)

other : (g : ℕ) → (g ≡ 0 → ⊥) → (g == 0) ≡ false
other g h = same_tests (g == 0) false (λ e. absurd (h ((Decides-eqb g 0).0 e))) (λ e. absurd (true≢false (sym e)))

pub no_type_at : (rows : List (List Id)) (e : Entity) → (e.generation ≡ 0 → ⊥) → None ≡ option_map type_of_record (record_of (rows_world rows) e)
no_type_at rows e h = no_row_at rows e.index e.generation (other e.generation h)

pair_in : (r : Entity) (ids : List Id) → list_any (λ (q : Id × Value). is_pair_of r q.0) (map (λ (i : Id). (i, zeros)) ids) ≡ list_any (is_pair_of r) ids
pair_in r [] = refl
pair_in r (i ∷ ids) = ap (λ b. is_pair_of r i || b) (pair_in r ids)

used_from : (r : Entity) (n : ℕ) (rows : List (List Id))
    → list_any (λ ids. list_any (is_pair_of r) ids) rows ≡ list_any (λ (p : Entity × Record). list_any (λ (q : Id × Value). is_pair_of r q.0) p.1.held)
    (living_from n (row_states rows))
used_from r n [] = refl
used_from r n (ids ∷ rows) =
    ap (λ b. b || list_any (λ xs. list_any (is_pair_of r) xs) rows) (sym (pair_in r ids))
    ∙ ap (λ b. list_any (λ (q : Id × Value). is_pair_of r q.0) (map (λ (i : Id). (i, zeros)) ids) || b) (used_from r (n + 1) rows)

pub used : (r : Entity) (rows : List (List Id)) → list_any (λ ids. list_any (is_pair_of r) ids) rows ≡ is_used (rows_world rows) r
used r rows = used_from r 0 rows

row_has : (i : Id) (ids : List Id) → is_some (find id_cmp i (map (λ (j : Id). (j, zeros)) ids)) ≡ has_item id_cmp ids i
row_has i ids = keys_find (map (λ (j : Id). (j, zeros)) ids) i ∙ ap (λ xs. has_item id_cmp xs i) (own_ids ids)

holder_in : (i : Id) (rows : List (List Id)) → IsTrue (list_any (λ ids. has_item id_cmp ids i) rows)
    → (n : ℕ) × IsTrue (has_in (record_in (slice_get (row_states rows) n) 0) i)
holder_in i [] h = absurd (true≢false (sym h))
holder_in i (ids ∷ rows) h = elim (or_parts (has_item id_cmp ids i) (list_any (λ xs. has_item id_cmp xs i) rows) h) as (λ _. (n : ℕ) × IsTrue
    (has_in (record_in (slice_get (row_states (ids ∷ rows)) n) 0) i)) [
      | inl k ↦ (zero, row_has i ids ∙ k)
      | inr k ↦ let rest = holder_in i rows k in (suc rest.0, rest.1)
    ]

in_holder : (i : Id) (rows : List (List Id)) (n g : ℕ) → IsTrue (has_in (record_in (slice_get (row_states rows) n) g) i)
    → IsTrue (list_any (λ ids. has_item id_cmp ids i) rows)
in_holder i [] n g h = absurd (true≢false (sym h))
in_holder i (ids ∷ rows) zero g h =
    elim (g == 0) as (λ b. IsTrue (has_in (if b then Some (with_ids ids) else None) i)
    → IsTrue (has_item id_cmp ids i || list_any (λ xs. has_item id_cmp xs i) rows)) [
      | true ↦ λ k. or_left _ _ (sym (row_has i ids) ∙ k)
      | false ↦ λ k. absurd (true≢false (sym k))
    ] h
in_holder i (ids ∷ rows) (suc n) g h = or_right _ _ (in_holder i rows n g h)

pub target : (i : Id) (rows : List (List Id)) → IsTrue (list_any (λ ids. has_item id_cmp ids i) rows) ↔
    ((holder : Entity) × IsTrue (has (rows_world rows) holder i))
target i rows = (
  λ h. let at = holder_in i rows h in (record { index = at.0; generation = 0 }, at.1),
  λ p. in_holder i rows p.0.index p.0.generation p.1,
)
