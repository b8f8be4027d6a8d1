-- What is left, and found, where many tables went.
use Rattle.eco_archetypes.proofs.Common.{◌≡◌, ℕ, ◌&&◌, ◌||◌, Bool, true, false, cond, List, [], ◌∷◌, ◌++◌, IfNone, nat_eq}
use Rattle.eco_archetypes.proofs.Common.{true≢false, OnSome, Option, Some, None, option_map, is_some, refl, sym, ap, ◌∙◌, inl, inr}
use Rattle.eco_archetypes.proofs.Common.{list_any, cases_eq, Decides-eqb, list_any-append, Id, TableState, slot_of, rowless_type, SetsSlot, Cache}
use Rattle.eco_archetypes.proofs.Common.{AreExact, ChangesType, edge, toggled, Lists, type_at, type_marked, type_matches, is_rowless, IsArchetypes, SameSlots}
use Rattle.eco_archetypes.proofs.Common.{has_table, DropsRowless, IsLess}
use Rattle.eco_ids.proofs.Lists.{not_equal}
use Rattle.eco_index.specs.Sweeping.{kept_if, KeepsListed, KeepsEdges}
use Rattle.eco_index.proofs.Sweeping.{kept_some}
use Rattle.eco_index.proofs.Keys.{and_true}
use Rattle.eco_archetypes.proofs.ArchetypeLemmas.{changes_type, kinds_kept}
use Rattle.eco_archetypes.proofs.Widths.{AreKept, kept_agreed, kinds}

pub less_both : (s s1 s2 : List (Option TableState)) → IsLess s s1 → IsLess s1 s2 → IsLess s s2
less_both s s1 s2 was next n = elim (next n) [
  | inl same ↦ elim (was n) [
    | inl before ↦ inl (same ∙ before)
    | inr none ↦ inr (same ∙ none)
  ]
  | inr none ↦ inr none
]

-- a table was dropped, so its slot has no type
pub dropped_type : (s s' : List (Option TableState)) (n : ℕ) (o : Option (List Id)) → is_some o ≡ true → OnSome o (SetsSlot s s' n None)
    → ChangesType (type_at s) (type_at s') n None
dropped_type s s' n None some sets = cc
dropped_type s s' n (Some ids) some sets = changes_type s s' n None sets

-- the slot has a table without rows
abbrev is_empty : Option TableState → Bool
is_empty o = is_some (rowless_type o)

and_false : (b : Bool) → (b && false) ≡ false
and_false true = refl
and_false false = refl

-- nothing is dropped yet
pub drops_none : (s : List (Option TableState)) → DropsRowless s s []
drops_none s n = rw (and_false (is_rowless s n)) refl

-- those of some slots are dropped, and then those of others
pub drops_both : (s s1 s2 : List (Option TableState)) (ns ms : List ℕ) → DropsRowless s s1 ns → DropsRowless s1 s2 ms → DropsRowless s s2 (ns ++ ms)
drops_both s s1 s2 ns ms was next n =
    next n ∙ ap (λ o. cond (is_empty o && list_any (nat_eq n) ms) None o) (was n)
    ∙ by (slot_of s n) (list_any (nat_eq n) ns) (list_any (nat_eq n) ms) (is_empty (slot_of s n)) refl
    ∙ ap (λ b. cond (is_rowless s n && b) None (slot_of s n)) (sym (list_any-append (nat_eq n) ns ms))
  where
    by : (o : Option TableState) (b c e : Bool) → is_empty o ≡ e
        → cond (is_empty (cond (is_empty o && b) None o) && c) None (cond (is_empty o && b) None o) ≡ cond (is_empty o && (b || c)) None o
    by o true c true h = rw h refl
    by o false true true h = rw h (rw h refl)
    by o false false true h = rw h (rw h refl)
    by o b c false h = rw h (rw h refl)

-- the table of one slot is dropped if it has no rows
pub drops_one : (s s' : List (Option TableState)) (n : ℕ) (o : Option (List Id)) → o ≡ rowless_type (slot_of s n)
    → OnSome o (SetsSlot s s' n None) → IfNone o (SameSlots s s') → DropsRowless s s' (n ∷ [])
drops_one s s' n None none sets same k = same k ∙ elim (cases_eq k n) [
  | inl here ↦ rw (ap (λ m. is_rowless s m) here ∙ sym (ap is_some none)) refl
  | inr other ↦ rw (not_equal k n other, and_false (is_rowless s k)) refl
]
drops_one s s' n (Some ids) some sets same k = elim (cases_eq k n) [
  | inl here ↦
      ap (slot_of s') here ∙ sets.changed
      ∙ rw (ap (λ m. is_rowless s m) here ∙ sym (ap is_some some), (Decides-eqb k n).1 here) refl
  | inr other ↦ sets.others k other ∙ rw (not_equal k n other, and_false (is_rowless s k)) refl
]

module _ (s s' : List (Option TableState)) (less : IsLess s s') where
  same_there : (n : ℕ) → has_table s' n ≡ true → slot_of s' n ≡ slot_of s n
  same_there n there = elim (less n) [
    | inl same ↦ same
    | inr none ↦ absurd (true≢false (sym there ∙ ap is_some none))
  ]

  type_there : (n : ℕ) → has_table s' n ≡ true → type_at s' n ≡ type_at s n
  type_there n there = ap (option_map (λ (t : TableState). t.ids)) (same_there n there)

  there_typed : (n : ℕ) (ids : List Id) → type_at s' n ≡ Some ids → has_table s' n ≡ true
  there_typed n ids = by (slot_of s' n)
    where
      by : (o : Option TableState) → option_map (λ (t : TableState). t.ids) o ≡ Some ids → is_some o ≡ true
      by None e = cc
      by (Some t) e = refl

  pub less_kept : AreKept s s'
  less_kept = record {
    each = λ n. elim (less n) [
      | inl same ↦ inl (ap kinds same)
      | inr none ↦ inr (ap kinds none)
    ];
  }

  -- what is listed is what is left
  kept_index : {P : Type 0} (test : Option (List Id) → P → Bool) (l l' : P → ℕ → Bool) → ((p : P) → test None p ≡ false)
      → ((p : P) (n : ℕ) → l p n ≡ test (type_at s n) p) → KeepsListed (has_table s') l l' → (p : P) (n : ℕ) → l' p n ≡ test (type_at s' n) p
  kept_index test l l' none index listed p n =
      listed p n ∙ ap (λ b. b && has_table s' n) (index p n) ∙ elim (less n) [
        | inl same ↦ rw same (by (slot_of s n))
        | inr gone ↦ rw gone (and_false (test (type_at s n) p) ∙ sym (none p))
      ]
    where
      by : (o : Option TableState) → (test (option_map (λ (t : TableState). t.ids) o) p && is_some o) ≡ test (option_map (λ (t : TableState). t.ids) o) p
      by None = and_false (test None p) ∙ sym (none p)
      by (Some t) = and_true (test (Some t.ids) p)

  pub found_swept : {ks ks' : List Cache} (m m' : ℕ → ℕ → Bool) (l l' : Lists) (g g' : List (List (Id × ℕ))) → IsArchetypes s m l g ks
      → KeepsListed (has_table s') m m' → KeepsListed (has_table s') l l'
      → KeepsEdges (has_table s') g g' → AreExact (type_at s') ks' → IsArchetypes s' m' l' g' ks'
  found_swept m m' l l' g g' found marks listed keeps exact = record {
    kinds = kinds_kept (type_at s) (type_at s') (λ n ids e. sym (type_there n (there_typed n ids e)) ∙ e) found.kinds;
    types = kept_index type_marked m m' (λ p. refl) found.types marks;
    matches = kept_index type_matches l l' (λ p. refl) found.matches listed;
    graph = λ n k i e. led n k i (has_table s' n) refl (sym (keeps n i) ∙ e);
    agreed = kept_agreed s s' less_kept found.agreed;
    cached = exact;
  }
    where
      led : (n k : ℕ) (i : Id) (b : Bool) → has_table s' n ≡ b → cond b (kept_if (has_table s') (edge g n i)) None ≡ Some k
          → (ids : List Id) × (type_at s' n ≡ Some ids) × (type_at s' k ≡ Some (toggled ids i))
      led n k i true here e =
          let was = kept_some (has_table s') (edge g n i) k e in
          let own = found.graph n k i was.0 in
          (own.0, type_there n here ∙ own.1, type_there k was.1 ∙ own.2)
      led n k i false here e = cc
