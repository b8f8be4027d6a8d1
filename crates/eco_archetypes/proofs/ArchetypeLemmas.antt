-- Tables are found exactly after a table was made, dropped or its rows changed.
use Rattle.eco_archetypes.proofs.Common.{◌≡◌, ◌≢◌, ℕ, ◌<◌, Bool, true, false, cond, ◌&&◌, List, [], ◌∷◌, length, slice_get, Option}
use Rattle.eco_archetypes.proofs.Common.{Some, None, option_map, unwrap_or, IsSome, nat_eq, refl, sym, ap, ◌∙◌, inl, inr, is_some, true≢false}
use Rattle.eco_archetypes.proofs.Common.{list_any, same_Some, ◌||◌}
use Rattle.eco_archetypes.proofs.Common.{cases_eq, Decides-eqb, Id, TableState, TableRow, slot_of, table_in, no_table, SetsSlot, Moves, MovesAll}
use Rattle.eco_archetypes.proofs.Common.{rowless, rowless_type, room_some, row_some, row_within, TypesDiffer, IsTypeMap, same_ids-Decides, is_type, fingerprint}
use Rattle.eco_archetypes.proofs.Common.{ListsSame, Lists, any_matches, Turns, toggled, Cuts}
use Rattle.eco_archetypes.proofs.Common.{Links, SameEdges, AreExact, AreTold, ChangesType, StayExact, Cache, exact_types, graph_made, graph_cut, graph_linked}
use Rattle.eco_archetypes.proofs.Common.{type_at, type_marked, type_matches, IsIdIndex, IsArchetypes, SameSlots, SameRows, AreAgreed}
use Rattle.std.specs.Prelude.{find as find_first}
use Rattle.eco_archetypes.proofs.Widths.{kept_agreed, kinds, sets_kept}

-- a slot whose table has a row, or room, has a table
pub there_by_row : (s : List (Option TableState)) (n row : ℕ) → row < length (table_in s n).rows → IsSome (slot_of s n)
there_by_row = row_some

-- and is one of the slots
pub below_by_row : (s : List (Option TableState)) (n row : ℕ) → row < length (table_in s n).rows → n < length s
below_by_row = row_within

pub there_by_room : (s : List (Option TableState)) (n : ℕ) → 0 < (table_in s n).room → IsSome (slot_of s n)
there_by_room = room_some

-- the type of a table that is there
pub type_there : (s : List (Option TableState)) (n : ℕ) → IsSome (slot_of s n) → type_at s n ≡ Some (table_in s n).ids
type_there s n = by (slot_of s n)
  where
    by : (o : Option TableState) → IsSome o → option_map (λ (t : TableState). t.ids) o ≡ Some (unwrap_or o no_table).ids
    by None h = absurd (cc)
    by (Some t) h = refl

module _ (s s' : List (Option TableState)) where
  -- where one table changes, and its type stays, no slot's type changes
  pub sets_types : (n : ℕ) (t : TableState) → SetsSlot s s' n (Some t) → IsSome (slot_of s n) → t.ids ≡ (table_in s n).ids
      → (k : ℕ) → type_at s' k ≡ type_at s k
  sets_types n t sets there same k =
      elim (cases_eq k n) [
        | inl here ↦
            ap (type_at s') here ∙ ap (option_map (λ (x : TableState). x.ids)) sets.changed ∙ ap Some same ∙ sym (type_there s n there)
            ∙ ap (type_at s) (sym here)
        | inr other ↦ ap (option_map (λ (x : TableState). x.ids)) (sets.others k other)
      ]

  -- where two tables change, and their types stay, no slot's type changes
  joined_types : (from to : ℕ) (t u : TableState) → slot_of s' from ≡ Some t → slot_of s' to ≡ Some u
      → ((n : ℕ) → n ≢ from → n ≢ to → slot_of s' n ≡ slot_of s n) → type_at s from ≡ Some t.ids → type_at s to ≡ Some u.ids
      → (k : ℕ) → type_at s' k ≡ type_at s k
  joined_types from to t u source target others was_from was_to k =
      elim (cases_eq k from) [
        | inl here ↦ ap (type_at s') here ∙ ap (option_map (λ (x : TableState). x.ids)) source ∙ sym was_from ∙ ap (type_at s) (sym here)
        | inr not_from ↦ elim (cases_eq k to) [
          | inl here ↦ ap (type_at s') here ∙ ap (option_map (λ (x : TableState). x.ids)) target ∙ sym was_to ∙ ap (type_at s) (sym here)
          | inr not_to ↦ ap (option_map (λ (x : TableState). x.ids)) (others k not_from not_to)
        ]
      ]

  pub moves_types : (from row to : ℕ) → Moves s s' from row to → IsSome (slot_of s from) → IsSome (slot_of s to)
      → (k : ℕ) → type_at s' k ≡ type_at s k
  moves_types from row to moves there_from there_to =
      joined_types from to _ _ moves.source moves.target moves.others (type_there s from there_from) (type_there s to there_to)

  pub moves_all_types : (from to : ℕ) → MovesAll s s' from to → IsSome (slot_of s from) → IsSome (slot_of s to)
      → (k : ℕ) → type_at s' k ≡ type_at s k
  moves_all_types from to moves there_from there_to =
      joined_types from to _ _ moves.source moves.target moves.others (type_there s from there_from) (type_there s to there_to)

-- ---- an index of slots, which lists under each key those whose types pass its test
module _ {P : Type 0} (test : Option (List Id) → P → Bool) (types types' : ℕ → Option (List Id)) (l l' : P → ℕ → Bool) (n : ℕ)
    (index : (f : P) (k : ℕ) → l f k ≡ test (types k) f) (others : (k : ℕ) → k ≢ n → types' k ≡ types k) where
  -- one slot has another type, or none, and comes to lists, or off them, as that type demands
  pub index_turned : (b : Bool) (picks : P → Bool) → Turns b picks l l' n
      → ((f : P) → cond (picks f && true) b (test (types n) f) ≡ test (types' n) f) → (f : P) (k : ℕ) → l' f k ≡ test (types' k) f
  index_turned b picks turns turned f k = turns f k ∙ by (nat_eq n k) refl
    where
      neither : (c d : Bool) → cond (c && false) b d ≡ d
      neither true d = refl
      neither false d = refl

      by : (c : Bool) → nat_eq n k ≡ c → cond (picks f && c) b (l f k) ≡ test (types' k) f
      by true e =
          let here : n ≡ k = (Decides-eqb n k).0 e in
          ap (cond (picks f && true) b) (ap (l f) (sym here) ∙ index f n) ∙ turned f ∙ ap (λ m. test (types' m) f) here
      by false e =
          let apart : k ≢ n = λ h. let same : nat_eq n k ≡ true = (Decides-eqb n k).1 (sym h) in cc in
          neither (picks f) (l f k) ∙ index f k ∙ ap (λ o. test o f) (sym (others k apart))

  module _ (ids : List Id) (none : (f : P) → test None f ≡ false) where
    -- a type comes to a slot that had none
    pub index_made : types' n ≡ Some ids → types n ≡ None → Turns true (test (Some ids)) l l' n → (f : P) (k : ℕ) → l' f k ≡ test (types' k) f
    index_made now vacant turns =
        index_turned true (test (Some ids)) turns
        (λ f. ap (cond (test (Some ids) f && true) true) (ap (λ o. test o f) vacant ∙ none f) ∙ by (test (Some ids) f) ∙ sym (ap (λ o. test o f) now))
      where
        by : (b : Bool) → cond (b && true) true false ≡ b
        by true = refl
        by false = refl

    -- a type goes from a slot
    pub index_dropped : types' n ≡ None → types n ≡ Some ids → Turns false (test (Some ids)) l l' n → (f : P) (k : ℕ) → l' f k ≡ test (types' k) f
    index_dropped gone had turns =
        index_turned false (test (Some ids)) turns
        (λ f. ap (λ o. cond (test (Some ids) f && true) false (test o f)) had ∙ by (test (Some ids) f) ∙ sym (ap (λ o. test o f) gone ∙ none f))
      where
        by : (b : Bool) → cond (b && true) false b ≡ false
        by true = refl
        by false = refl

-- the types, and what is listed, are as before
pub index_same : {P : Type 0} (test : Option (List Id) → P → Bool) (types types' : ℕ → Option (List Id)) (l l' : P → ℕ → Bool)
    → ((f : P) (k : ℕ) → l f k ≡ test (types k) f) → ((k : ℕ) → types' k ≡ types k) → ListsSame l l' → (f : P) (k : ℕ) → l' f k ≡ test (types' k) f
index_same test types types' l l' index same lists f k = lists f k ∙ index f k ∙ ap (λ o. test o f) (sym (same k))

-- no type comes that was not there
pub kinds_kept : (types types' : ℕ → Option (List Id)) → ((k : ℕ) (ids : List Id) → types' k ≡ Some ids → types k ≡ Some ids)
    → TypesDiffer types → TypesDiffer types'
kinds_kept types types' was kinds n m ids a b = kinds n m ids (was n ids a) (was m ids b)

-- one slot has a type that no slot had
pub kinds_set : (types types' : ℕ → Option (List Id)) (n : ℕ) (u : List Id) → ((k : ℕ) → k ≢ n → types' k ≡ types k) → types' n ≡ Some u
    → ((k : ℕ) → types k ≢ Some u) → TypesDiffer types → TypesDiffer types'
kinds_set types types' n u others now absent kinds k j ids a b = elim (cases_eq k n) [
  | inl here ↦ elim (cases_eq j n) [
    | inl there ↦ here ∙ sym there
    | inr other ↦ absurd (absent j (sym (others j other) ∙ b ∙ sym a ∙ ap types' here ∙ now))
  ]
  | inr other ↦ elim (cases_eq j n) [
    | inl there ↦ absurd (absent k (sym (others k other) ∙ a ∙ sym b ∙ ap types' there ∙ now))
    | inr apart ↦ kinds k j ids (sym (others k other) ∙ a) (sym (others j apart) ∙ b)
  ]
]

-- ---- a table is looked for by its type
pub type_is : (o : Option (List Id)) (ids : List Id) → is_type o ids ≡ true → o ≡ Some ids
type_is None ids h = absurd (true≢false (sym h))
type_is (Some own) ids h = ap Some ((same_ids-Decides own ids).0 h)

pub is_own_type : (o : Option (List Id)) (ids : List Id) → o ≡ Some ids → is_type o ids ≡ true
is_own_type o ids is = ap (λ p. is_type p ids) is ∙ (same_ids-Decides ids ids).1 refl

pub find_passes : (p : ℕ → Bool) (ns : List ℕ) (n : ℕ) → find_first p ns ≡ Some n → p n ≡ true
find_passes p [] n e = cc
find_passes p (x ∷ xs) n e = by (p x) refl e (find_passes p xs n)
  where
    by : (b : Bool) → p x ≡ b → cond b (Some x) (find_first p xs) ≡ Some n → (find_first p xs ≡ Some n → p n ≡ true) → p n ≡ true
    by true is e later = ap p (sym (same_Some x n e)) ∙ is
    by false is e later = later e

pub find_none : (p : ℕ → Bool) (ns : List ℕ) → find_first p ns ≡ None → (n : ℕ) → list_any (nat_eq n) ns ≡ true → p n ≡ false
find_none p [] none n there = absurd (true≢false (sym there))
find_none p (x ∷ xs) none n there = by (p x) refl none (nat_eq n x) refl there (λ e. find_none p xs e n)
  where
    by : (b : Bool) → p x ≡ b → cond b (Some x) (find_first p xs) ≡ None → (c : Bool) → nat_eq n x ≡ c → (c || list_any (nat_eq n) xs) ≡ true
        → (find_first p xs ≡ None → list_any (nat_eq n) xs ≡ true → p n ≡ false) → p n ≡ false
    by true is e c same there later = cc
    by false is e true same there later = ap p ((Decides-eqb n x).0 same) ∙ is
    by false is e false same there later = later e there

-- where none of the slots that are listed under the fingerprint of a type has it, no table has
pub none_typed : (types : ℕ → Option (List Id)) (l : ℕ → ℕ → Bool) (ids : List Id) (ns : List ℕ) → IsTypeMap types l
    → ((n : ℕ) → list_any (nat_eq n) ns ≡ l (fingerprint ids) n) → ((n : ℕ) → list_any (nat_eq n) ns ≡ true → is_type (types n) ids ≡ false)
    → (n : ℕ) → types n ≢ Some ids
none_typed types l ids ns index listed none n is =
    let there : list_any (nat_eq n) ns ≡ true =
    listed n ∙ index (fingerprint ids) n ∙ ap (λ o. type_marked o (fingerprint ids)) is ∙ (Decides-eqb (fingerprint ids) (fingerprint ids)).1 refl in
    true≢false (sym (is_own_type (types n) ids is) ∙ none n there)

-- one slot is set
pub changes_type : (s s' : List (Option TableState)) (n : ℕ) (o : Option TableState) → SetsSlot s s' n o
    → ChangesType (type_at s) (type_at s') n (option_map (λ (t : TableState). t.ids) o)
changes_type s s' n o sets = record {
  there = ap (option_map (λ (t : TableState). t.ids)) sets.changed;
  others = λ k other. ap (option_map (λ (t : TableState). t.ids)) (sets.others k other);
}

module _ {ks : List Cache} {s : List (Option TableState)} {m : ℕ → ℕ → Bool} {l : Lists} {g : List (List (Id × ℕ))} (found : IsArchetypes s m l g ks) where
  module _ {s' : List (Option TableState)} (same : (k : ℕ) → type_at s' k ≡ type_at s k) where
    -- the same types are found
    pub found_kept : {ks' : List Cache} {m' : ℕ → ℕ → Bool} {l' : Lists} → IsTypeMap (type_at s') m' → IsIdIndex (type_at s') l'
        → AreAgreed s' → AreExact (type_at s') ks' → IsArchetypes s' m' l' g ks'
    found_kept types matches agreed cached = record {
      kinds = kinds_kept (type_at s) (type_at s') (λ k ids e. sym (same k) ∙ e) found.kinds;
      types = types;
      matches = matches;
      graph = λ n k i e. let was = found.graph n k i e in (was.0, same n ∙ was.1, same k ∙ was.2);
      agreed = agreed;
      cached = cached;
    }

    -- by the same maps
    pub found_same : AreAgreed s' → IsArchetypes s' m l g ks
    found_same agreed =
        found_kept (index_same type_marked (type_at s) (type_at s') m m found.types same (λ f n. refl))
        (index_same type_matches (type_at s) (type_at s') l l found.matches same (λ f n. refl)) agreed
        (exact_types (type_at s) (type_at s') ks same found.cached)

  -- so they are where one table changes, and neither its ids nor how wide they are
  pub found_set : {s' : List (Option TableState)} {n : ℕ} {t : TableState} → SetsSlot s s' n (Some t) → IsSome (slot_of s n)
      → t.ids ≡ (table_in s n).ids → kinds (Some t) ≡ kinds (slot_of s n) → IsArchetypes s' m l g ks
  found_set {s'} {n} {t} sets there ids wide =
      found_same (sets_types s s' n t sets there ids) (kept_agreed s s' (sets_kept s s' n (Some t) sets (inl wide)) found.agreed)

  -- maps were made ready for more, and no table changed
  pub found_ready : {ks' : List Cache} {m' : ℕ → ℕ → Bool} → ListsSame m m' → StayExact ks ks' → IsArchetypes s m' l g ks'
  found_ready {m'} same exact =
      found_kept (λ k. refl) (index_same type_marked (type_at s) (type_at s) m m' found.types (λ k. refl) same) found.matches found.agreed
      (exact (type_at s) found.cached)

  -- two tables are joined by an id, of whose types one has it alone besides what the other has
  pub found_linked : {g' : List (List (Id × ℕ))} (a b : ℕ) (i : Id) (ids : List Id) → Links g g' a i b → type_at s a ≡ Some ids
      → type_at s b ≡ Some (toggled ids i) → toggled (toggled ids i) i ≡ ids → IsArchetypes s m l g' ks
  found_linked {g'} a b i ids links from to twice = record {
    kinds = found.kinds;
    types = found.types;
    matches = found.matches;
    graph = graph_linked (type_at s) g g' a b i ids found.graph links from to twice;
    agreed = found.agreed;
    cached = found.cached;
  }

  -- the same edges lead on
  pub found_unlinked : {g' : List (List (Id × ℕ))} → SameEdges g g' → IsArchetypes s m l g' ks
  found_unlinked same = record {
    kinds = found.kinds;
    types = found.types;
    matches = found.matches;
    graph = λ n k i e. found.graph n k i (sym (same n i) ∙ e);
    agreed = found.agreed;
    cached = found.cached;
  }

  -- a new table is found
  pub found_made : {ks' : List Cache} {s' : List (Option TableState)} {m' : ℕ → ℕ → Bool} {l' : Lists} {n : ℕ} {t : TableState}
      → SetsSlot s s' n (Some t) → slot_of s n ≡ None → AreAgreed s' → ((k : ℕ) → type_at s k ≢ Some t.ids)
      → IsTypeMap (type_at s') m' → IsIdIndex (type_at s') l' → AreTold ks ks' n (Some t.ids) → IsArchetypes s' m' l' g ks'
  found_made {ks'} {s'} {m'} {l'} {n} {t} sets vacant agreed absent types matches told =
      let changes = changes_type s s' n (Some t) sets in
      record {
        kinds = kinds_set (type_at s) (type_at s') n t.ids changes.others changes.there absent found.kinds;
        types = types;
        matches = matches;
        graph =
            graph_made (type_at s) (type_at s') g n found.graph (ap (option_map (λ (x : TableState). x.ids)) vacant) changes.others;
        agreed = agreed;
        cached = told (type_at s) (type_at s') changes found.cached;
      }

  -- a table that was dropped is found no more
  pub found_dropped : {ks' : List Cache} {s' : List (Option TableState)} {m' : ℕ → ℕ → Bool} {l' : Lists} {g' : List (List (Id × ℕ))}
      {n : ℕ} {ids : List Id} → SetsSlot s s' n None → type_at s n ≡ Some ids → Turns false (nat_eq (fingerprint ids)) m m' n
      → Turns false (any_matches ids) l l' n → Cuts g g' n → AreTold ks ks' n None → IsArchetypes s' m' l' g' ks'
  found_dropped {ks'} {s'} {m'} {l'} {g'} {n} {ids} sets had unmarks turns cuts told =
      let changes = changes_type s s' n None sets in
      record {
        kinds = λ k j own a b. found.kinds k j own (was changes k own a) (was changes j own b);
        types =
            index_dropped type_marked (type_at s) (type_at s') m m' n found.types changes.others ids (λ f. refl) changes.there had unmarks;
        matches =
            index_dropped type_matches (type_at s) (type_at s') l l' n found.matches changes.others ids (λ f. refl) changes.there had turns;
        graph = graph_cut (type_at s) (type_at s') g g' n found.graph cuts changes.others;
        agreed = kept_agreed s s' (sets_kept s s' n None sets (inr refl)) found.agreed;
        cached = told (type_at s) (type_at s') changes found.cached;
      }
    where
      was : ChangesType (type_at s) (type_at s') n None → (k : ℕ) (own : List Id) → type_at s' k ≡ Some own → type_at s k ≡ Some own
      was changes k own e = elim (cases_eq k n) [
        | inl here ↦ absurd (let bad : ◌≡◌ {A = Option (List Id)} None (Some own) = sym changes.there ∙ ap (type_at s') (sym here) ∙ e in cc)
        | inr other ↦ sym (changes.others k other) ∙ e
      ]

-- a table that was answered as without rows had that type
pub rowless-type_at : (s : List (Option TableState)) (n : ℕ) (ids : List Id) → Some ids ≡ rowless_type (slot_of s n) → type_at s n ≡ Some ids
rowless-type_at s n ids = by (slot_of s n)
  where
    of_rows : (t : TableState) (rows : List TableRow) → Some ids ≡ rowless t rows → ◌≡◌ {A = Option (List Id)} (Some t.ids) (Some ids)
    of_rows t [] e = sym e
    of_rows t (r ∷ rest) e = absurd (cc)

    by : (o : Option TableState) → Some ids ≡ rowless_type o → option_map (λ (t : TableState). t.ids) o ≡ Some ids
    by None e = absurd (cc)
    by (Some t) e = of_rows t t.rows e

-- the rows stay where one table changes, and its rows don't
pub same_rows : (s s' : List (Option TableState)) (n : ℕ) (slot : Option TableState) → SetsSlot s s' n slot
    → (unwrap_or slot no_table).rows ≡ (table_in s n).rows → SameRows s s'
same_rows s s' n slot sets same k row =
    elim (cases_eq k n) [
      | inl here ↦
          ap (λ j. slice_get (table_in s' j).rows row) here ∙ ap (λ o. slice_get (unwrap_or o no_table).rows row) sets.changed
          ∙ ap (λ rows. slice_get rows row) same
          ∙ sym (ap (λ j. slice_get (table_in s j).rows row) here)
      | inr other ↦ ap (λ o. slice_get (unwrap_or o no_table).rows row) (sets.others k other)
    ]

pub rows_from_slots : (s s' : List (Option TableState)) → SameSlots s s' → SameRows s s'
rows_from_slots s s' same n row = ap (λ o. slice_get (unwrap_or o no_table).rows row) (same n)

pub then_rows : (s s' s2 : List (Option TableState)) → SameRows s s' → SameRows s' s2 → SameRows s s2
then_rows s s' s2 a b n row = b n row ∙ a n row

-- the ids of the table in a slot of a type
pub typed_table : (s : List (Option TableState)) (n : ℕ) (ids : List Id) → type_at s n ≡ Some ids → (table_in s n).ids ≡ ids
typed_table s n ids = by (slot_of s n)
  where
    by : (o : Option TableState) → option_map (λ (t : TableState). t.ids) o ≡ Some ids → (unwrap_or o no_table).ids ≡ ids
    by None h = absurd (cc)
    by (Some t) h = cc

-- a slot that has a type has a table
pub there_by_type : (s : List (Option TableState)) (n : ℕ) → is_some (type_at s n) ≡ is_some (slot_of s n)
there_by_type s n = by (slot_of s n)
  where
    by : (o : Option TableState) → is_some (option_map (λ (t : TableState). t.ids) o) ≡ is_some o
    by None = refl
    by (Some t) = refl

pub there_as_typed : (s : List (Option TableState)) (n : ℕ) (ids : List Id) → type_at s n ≡ Some ids → IsSome (slot_of s n)
there_as_typed s n ids typed = sym (there_by_type s n) ∙ ap is_some typed
