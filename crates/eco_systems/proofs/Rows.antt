-- A query's rows with values are the same on worlds that look the same through what it reads.
use Rattle.eco_systems.proofs.Common.{◌≡◌, ℕ, suc, ◌+◌, Bool, true, false, cond, ◌==◌, T, List, [], ◌∷◌, ◌++◌, map, refl, sym, ap}
use Rattle.eco_systems.proofs.Common.{◌∙◌, subst, ◌⊎◌, inl, inr, Option, Some, None, is_some, option_map, unwrap_or, slice_get, arith, eqb-true}
use Rattle.eco_systems.proofs.Common.{flat_map, is_sorted, Entity, Id, Value, value_of, IndexState, Retired, Free, Living, record_in}
use Rattle.eco_systems.proofs.Common.{living_from, IsLawful, id_cmp, WorldState, Record, held_by, living, record_of, record_apart, QuerySlot, HasPositive}
use Rattle.eco_systems.proofs.Common.{ValuedRow, entry_value, entry_values, valued, valued_rows, shows_values, IsTrue, matches_one, patterns_of}
use Rattle.eco_ids.proofs.States.{record_here}
use Rattle.eco_ids.specs.Answer.{Row, choices}
use Rattle.eco_ids.proofs.Exact.{keys, keys_find, keys_ascending}
use Rattle.eco_systems.proofs.Answers.{asked, Sees, Alike, AreRead, IsRead, choices_alike, choices_read, no_choices, read_parts}
use Rattle.std.proofs.lemmas.Simd.{map-map}
use Rattle.eco_systems.proofs.Lists.{same_mapped, map_gathered}
use Rattle.eco_systems.proofs.Same.{LooksSame, value_alike}

-- ---- the rows of one entity

abbrev pub row_at : Entity → List (Option Id) → Row
row_at e entries = record { entity = e; entries = entries }

-- of an entity with these ids
abbrev pub rows_with : WorldState → List QuerySlot → Entity → List (Id × Value) → List ValuedRow
rows_with w slots e held = map (λ es. valued w slots (row_at e es)) (choices (keys held) (asked slots))

abbrev pub own_rows : WorldState → List QuerySlot → Entity → List ValuedRow
own_rows w slots e = rows_with w slots e (held_by w e)

held_sorted : (w : WorldState) → IsLawful w → (e : Entity) → T (is_sorted id_cmp (held_by w e))
held_sorted w l e = go (record_of w e) refl
  where
    go : (o : Option Record) → record_of w e ≡ o → T (is_sorted id_cmp (unwrap_or (option_map (λ r. r.held) o) []))
    go None at = tt
    go (Some r) at = (l.orderly.records e r at).ascending

module _ (seen : Id → Bool) (w new : WorldState) (p : LooksSame seen w new) where
  value_same : (slot : QuerySlot) (e : Entity) (o : Option Id) → ((i : Id) → IsTrue (matches_one (patterns_of slot.term) i) → IsTrue (seen i)) →
      IsRead slot.term o → entry_value (value_of new e) slot.access o ≡ entry_value (value_of w e) slot.access o
  value_same slot e None sees h = refl
  value_same slot e (Some i) sees h = ap (λ v. cond (shows_values slot.access) v None) (value_alike p e i (sees i (read_parts slot.term i h).0))

  values_same : (slots : List QuerySlot) (e : Entity) (es : List (Option Id)) → Sees seen slots → AreRead slots es →
      entry_values (value_of new e) slots es ≡ entry_values (value_of w e) slots es
  values_same [] e es sees h = refl
  values_same (s ∷ ss) e [] sees h = refl
  values_same (s ∷ ss) e (o ∷ os) sees h = λ i. value_same s e o sees.0 h.0 i ∷ values_same ss e os sees.1 h.1 i

  valued_same : (slots : List QuerySlot) (e : Entity) (es : List (Option Id)) → Sees seen slots → AreRead slots es →
      valued new slots (row_at e es) ≡ valued w slots (row_at e es)
  valued_same slots e es sees h = ap (λ vs. record { entity = e; entries = es; values = vs }) (values_same slots e es sees h)

  own_same : (slots : List QuerySlot) → Sees seen slots → IsLawful w → IsLawful new → (e : Entity) → own_rows new slots e ≡ own_rows w slots e
  own_same slots sees l m e =
      same_mapped (AreRead slots) (λ es. valued new slots (row_at e es)) (λ es. valued w slots (row_at e es)) (λ es h. valued_same slots e es sees h)
      (choices (keys (held_by new e)) (asked slots)) (choices_read (keys (held_by new e)) slots)
      ∙ ap (map (λ es. valued w slots (row_at e es))) (choices_alike seen (keys (held_by new e)) (keys (held_by w e)) alike slots sees)
    where
      alike : Alike seen (keys (held_by new e)) (keys (held_by w e))
      alike = record {
        up = keys_ascending (held_by new e) (held_sorted new m e);
        vp = keys_ascending (held_by w e) (held_sorted w l e);
        same = λ i h. sym (keys_find (held_by new e) i) ∙ ap is_some (p.held e i h) ∙ keys_find (held_by w e) i;
      }

-- one that isn't living has none
no_rows : (w : WorldState) (slots : List QuerySlot) → HasPositive slots → (e : Entity) → record_of w e ≡ None → own_rows w slots e ≡ []
no_rows w slots positive e at =
    ap (λ (o : Option Record). rows_with w slots e (unwrap_or (option_map (λ r. r.held) o) [])) at
    ∙ ap (map (λ es. valued w slots (row_at e es))) (no_choices slots positive)

-- ---- what stands at an index

-- the rows of who lives at an index
abbrev rows_at : (Entity → List (Id × Value) → List ValuedRow) → ℕ → Option (IndexState Record) → List ValuedRow
rows_at f n None = []
rows_at f n (Some Retired) = []
rows_at f n (Some (Free g)) = []
rows_at f n (Some (Living g r)) = f (record { index = n; generation = g }) r.held

-- somebody lives there, or nobody of any generation
abbrev Lived : Option (IndexState Record) → Type 0
Lived o = (g : ℕ) × (r : Record) × (o ≡ Some (Living g r))

abbrev Empty : Option (IndexState Record) → Type 0
Empty o = ((g : ℕ) → record_in o g ≡ None) × ((f : Entity → List (Id × Value) → List ValuedRow) (n : ℕ) → rows_at f n o ≡ [])

lived_or_empty : (o : Option (IndexState Record)) → Lived o ⊎ Empty o
lived_or_empty None = inr (λ g. refl, λ f n. refl)
lived_or_empty (Some Retired) = inr (λ g. refl, λ f n. refl)
lived_or_empty (Some (Free h)) = inr (λ g. refl, λ f n. refl)
lived_or_empty (Some (Living g r)) = inl (g, r, refl)

abbrev here : ℕ → ℕ → Entity
here n g = record { index = n; generation = g }

module _ (w new : WorldState) (slots : List QuerySlot) (positive : HasPositive slots)
    (same : (e : Entity) → own_rows new slots e ≡ own_rows w slots e) where
  -- who lives at an index has the rows of that entity
  lived_rows : (v : WorldState) (k g : ℕ) (r : Record) → slice_get v.indices k ≡ Some (Living g r) →
      rows_at (rows_with v slots) k (slice_get v.indices k) ≡ own_rows v slots (here k g)
  lived_rows v k g r at =
      ap (rows_at (rows_with v slots) k) at
      ∙ sym (ap (λ (o : Option Record). rows_with v slots (here k g) (unwrap_or (option_map (λ r. r.held) o) []))
      (ap (λ s. record_in s g) at ∙ record_here g r))

  -- another generation has none
  other_rows : (v : WorldState) (k f g : ℕ) (r : Record) → slice_get v.indices k ≡ Some (Living f r) → (f ≡ g → ⊥)
      → own_rows v slots (here k g) ≡ []
  other_rows v k f g r at apart = no_rows v slots positive (here k g) (ap (λ s. record_in s g) at ∙ record_apart f g r apart)

  both_lived : (k f g : ℕ) (q r : Record) → slice_get new.indices k ≡ Some (Living f q) → slice_get w.indices k ≡ Some (Living g r) →
      own_rows new slots (here k f) ≡ own_rows w slots (here k g)
  both_lived k f g q r at bt =
      elim (f == g) as (λ b. (f == g) ≡ b → own_rows new slots (here k f) ≡ own_rows w slots (here k g)) [
        | true ↦ λ e. same (here k f) ∙ ap (λ n. own_rows w slots (here k n)) (eqb-true f g e)
        | false ↦ λ e.
            let apart : g ≡ f → ⊥ = λ h. grind (arith, e, h) in
            let back : f ≡ g → ⊥ = λ h. apart (sym h) in
            same (here k f) ∙ other_rows w k g f r bt apart ∙ sym (sym (same (here k g)) ∙ other_rows new k f g q at back)
      ] refl

  at_index : (k : ℕ) → rows_at (rows_with new slots) k (slice_get new.indices k) ≡ rows_at (rows_with w slots) k (slice_get w.indices k)
  at_index k =
      elim (lived_or_empty (slice_get new.indices k)) as (λ _. rows_at (rows_with new slots) k (slice_get new.indices k) ≡ rows_at (rows_with w slots) k
      (slice_get w.indices k)) [
        | inl a ↦ elim (lived_or_empty (slice_get w.indices k)) as (λ _. rows_at (rows_with new slots) k (slice_get new.indices k) ≡ rows_at
            (rows_with w slots) k (slice_get w.indices k)) [
              | inl b ↦ lived_rows new k a.0 a.1 a.2 ∙ both_lived k a.0 b.0 a.1 b.1 a.2 b.2 ∙ sym (lived_rows w k b.0 b.1 b.2)
              | inr b ↦ lived_rows new k a.0 a.1 a.2 ∙ same (here k a.0) ∙ no_rows w slots positive (here k a.0) (b.0 a.0)
                  ∙ sym (b.1 (rows_with w slots) k)
            ]
        | inr a ↦ elim (lived_or_empty (slice_get w.indices k)) as (λ _. rows_at (rows_with new slots) k (slice_get new.indices k) ≡ rows_at
            (rows_with w slots) k (slice_get w.indices k)) [
              | inl b ↦ a.1 (rows_with new slots) k
                  ∙ sym (lived_rows w k b.0 b.1 b.2 ∙ sym (same (here k b.0)) ∙ no_rows new slots positive (here k b.0) (a.0 b.0))
              | inr b ↦ a.1 (rows_with new slots) k ∙ sym (b.1 (rows_with w slots) k)
            ]
      ]

-- ---- all indices

abbrev all_rows : (Entity → List (Id × Value) → List ValuedRow) → ℕ → List (IndexState Record) → List ValuedRow
all_rows f n xs = flat_map (λ (p : Entity × Record). f p.0 p.1.held) (living_from n xs)

one_more : (f : Entity → List (Id × Value) → List ValuedRow) (n : ℕ) (x : IndexState Record) (xs : List (IndexState Record)) →
    all_rows f n (x ∷ xs) ≡ rows_at f n (Some x) ++ all_rows f (n + 1) xs
one_more f n Retired xs = refl
one_more f n (Free g) xs = refl
one_more f n (Living g r) xs = refl

module _ (f h : Entity → List (Id × Value) → List ValuedRow) where
  -- from n on the same stands at each index
  abbrev AreSame : ℕ → List (IndexState Record) → List (IndexState Record) → Type 0
  AreSame n ys xs = (k m : ℕ) → m ≡ n + k → rows_at h m (slice_get ys k) ≡ rows_at f m (slice_get xs k)

  all_same : (n : ℕ) (ys xs : List (IndexState Record)) → AreSame n ys xs → all_rows h n ys ≡ all_rows f n xs
  all_same n [] [] is = refl
  all_same n [] (x ∷ xs) is =
      all_same (n + 1) [] xs (λ k m e. is (suc k) m (omega (arith, e)))
      ∙ sym (one_more f n x xs ∙ ap (λ rs. rs ++ all_rows f (n + 1) xs) (sym (is 0 n (omega arith))))
  all_same n (y ∷ ys) [] is =
      one_more h n y ys ∙ ap (λ rs. rs ++ all_rows h (n + 1) ys) (is 0 n (omega arith))
      ∙ all_same (n + 1) ys [] (λ k m e. is (suc k) m (omega (arith, e)))
  all_same n (y ∷ ys) (x ∷ xs) is =
      one_more h n y ys
      ∙ (λ i. is 0 n (omega arith) i ++ all_same (n + 1) ys xs (λ k m e. is (suc k) m (omega (arith, e))) i)
      ∙ sym (one_more f n x xs)

-- ---- the rows of a world, entity by entity

gathered : (w : WorldState) (slots : List QuerySlot) → valued_rows w slots ≡ all_rows (rows_with w slots) 0 w.indices
gathered w slots =
    map_gathered (λ (p : Entity × Record). map (row_at p.0) (choices (keys p.1.held) (asked slots))) (valued w slots) (living w)
    ∙ λ i. flat_map (λ (p : Entity × Record). map-map (valued w slots) (row_at p.0) (choices (keys p.1.held) (asked slots)) i) (living w)

pub rows_same : (seen : Id → Bool) (w new : WorldState) (slots : List QuerySlot) → IsLawful w → IsLawful new → HasPositive slots → Sees seen slots →
    LooksSame seen w new → valued_rows new slots ≡ valued_rows w slots
rows_same seen w new slots l m positive sees p =
    gathered new slots
    ∙ all_same (rows_with w slots) (rows_with new slots) 0 new.indices w.indices
    (λ k j e. let is : k ≡ j = omega (arith, e) in
    subst (λ n. rows_at (rows_with new slots) n (slice_get new.indices k) ≡ rows_at (rows_with w slots) n (slice_get w.indices k)) is
    (at_index w new slots positive (own_same seen w new p slots sees l m) k))
    ∙ sym (gathered w slots)
