-- What holds after a table was made in a slot that was empty, got other room, and was dropped again.
use Rattle.eco_archetypes.proofs.Common.{◌≡◌, ◌≢◌, ◌||◌, ℕ, List, ◌∷◌, Option, None, Some, OnSome, IfNone, IsSome, option_map}
use Rattle.eco_archetypes.proofs.Common.{unwrap_or, is_some, nat_eq, refl, subst, sym, ap, ◌∙◌, inl, inr, list_any, cases_eq, Decides-eqb, Id, TableState}
use Rattle.eco_archetypes.proofs.Common.{empty_table, slot_of, no_table, rowless_type, SetsSlot, SetsRoom, type_at, KeepsTypes, RowlessIn, SameRows, SameSlots}
use Rattle.eco_archetypes.proofs.Common.{table_in, with_room, KeepsRoom, arith}
use Rattle.eco_ids.proofs.Lists.{not_equal}
use Rattle.eco_archetypes.proofs.ArchetypeLemmas.{same_rows, sets_types}

module _ (s s' : List (Option TableState)) (n : ℕ) (slots : List ℕ) (slot : Option TableState) (sets : SetsSlot s s' n slot) where
  -- a table that may be without rows now
  pub rowless_set : RowlessIn s slots → RowlessIn s' (n ∷ slots)
  rowless_set was m empty =
      elim (cases_eq m n) [
        | inl here ↦ ap (λ b. b || list_any (nat_eq m) slots) ((Decides-eqb m n).1 here)
        | inr other ↦
            ap (λ b. b || list_any (nat_eq m) slots) (not_equal m n other)
            ∙ was m (sym (ap (λ o. is_some (rowless_type o)) (sets.others m other)) ∙ empty)
      ]

  -- a table that might be without rows before
  pub rowless_reset : RowlessIn s (n ∷ slots) → RowlessIn s' (n ∷ slots)
  rowless_reset was m empty =
      elim (cases_eq m n) [
        | inl here ↦ ap (λ b. b || list_any (nat_eq m) slots) ((Decides-eqb m n).1 here)
        | inr other ↦ was m (sym (ap (λ o. is_some (rowless_type o)) (sets.others m other)) ∙ empty)
      ]

-- no table changes
pub rowless_same : (s s' : List (Option TableState)) → SameSlots s s' → (slots : List ℕ) → RowlessIn s slots → RowlessIn s' slots
rowless_same s s' same slots was m empty = was m (sym (ap (λ o. is_some (rowless_type o)) (same m)) ∙ empty)

-- a table comes to a slot that was empty
module _ (s s' : List (Option TableState)) (n : ℕ) (ids : List Id) (ws : List ℕ) (vacant : slot_of s n ≡ None)
    (sets : SetsSlot s s' n (Some (empty_table ids ws))) where
  pub made_there : IsSome (slot_of s' n)
  made_there = ap is_some sets.changed

  pub made_rows : SameRows s s'
  made_rows = same_rows s s' n (Some (empty_table ids ws)) sets (sym (ap (λ o. (unwrap_or o no_table).rows) vacant))

  apart_from_new : (k : ℕ) (own : List Id) → type_at s k ≡ Some own → k ≢ n
  apart_from_new k own had here =
      let bad : ◌≡◌ {A = Option (List Id)} None (Some own) = sym (ap (option_map (λ (t : TableState). t.ids)) vacant)
      ∙ sym (ap (type_at s) here) ∙ had in
      absurd (cc)

  pub made_types : KeepsTypes s s'
  made_types k own had = ap (option_map (λ (t : TableState). t.ids)) (sets.others k (apart_from_new k own had)) ∙ had

  module _ (s2 : List (Option TableState)) (room : SetsRoom s' s2 n) where
    room_types : (k : ℕ) → type_at s2 k ≡ type_at s' k
    room_types = sets_types s' s2 n _ room made_there refl

    pub made_typed : type_at s2 n ≡ Some ids
    made_typed = room_types n ∙ ap (option_map (λ (t : TableState). t.ids)) sets.changed

    pub made_roomier : KeepsRoom s s2
    made_roomier k = elim (cases_eq k n) [
      | inl here ↦
          let none : (table_in s k).room ≡ 0 = ap (λ j. (table_in s j).room) here ∙ ap (λ o. (unwrap_or o no_table).room) vacant in
          omega (arith, none)
      | inr other ↦
          let same : (table_in s2 k).room ≡ (table_in s k).room = ap (λ o. (unwrap_or o no_table).room) (room.others k other ∙ sets.others k other) in
          omega (arith, same)
    ]

    pub roomy_types : KeepsTypes s s2
    roomy_types k own had = room_types k ∙ made_types k own had

    -- and is dropped
    pub dropped_types : (s3 : List (Option TableState)) (o : Option (List Id)) → OnSome o (SetsSlot s2 s3 n None) → IfNone o (SameSlots s2 s3)
        → KeepsTypes s s3
    dropped_types s3 None dropped kept k own had = ap (option_map (λ (t : TableState). t.ids)) (kept k) ∙ roomy_types k own had
    dropped_types s3 (Some gone) dropped kept k own had =
        ap (option_map (λ (t : TableState). t.ids)) (dropped.others k (apart_from_new k own had)) ∙ roomy_types k own had

-- a table that was made is dropped again
pub unmade : (s s1 s2 : List (Option TableState)) (n : ℕ) (ids : List Id) (ws : List ℕ) → slot_of s n ≡ None
    → SetsSlot s s1 n (Some (empty_table ids ws))
    → OnSome (rowless_type (slot_of s1 n)) (SetsSlot s1 s2 n None) → SameSlots s s2
unmade s s1 s2 n ids ws vacant sets dropped k =
    let gone : SetsSlot s1 s2 n None = subst (λ o. OnSome (rowless_type o) (SetsSlot s1 s2 n None)) sets.changed dropped in
    elim (cases_eq k n) [
      | inl here ↦ ap (slot_of s2) here ∙ gone.changed ∙ sym (ap (slot_of s) here ∙ vacant)
      | inr other ↦ gone.others k other ∙ sets.others k other
    ]

-- a table that was made, and was refused room, is dropped again
pub unmade_roomless : (s s1 s2 s3 : List (Option TableState)) (n : ℕ) (ids : List Id) (ws : List ℕ) → slot_of s n ≡ None
    → SetsSlot s s1 n (Some (empty_table ids ws)) → SameSlots s1 s2
    → OnSome (rowless_type (slot_of s2 n)) (SetsSlot s2 s3 n None) → SameSlots s s3
unmade_roomless s s1 s2 s3 n ids ws vacant sets same dropped =
    unmade s s2 s3 n ids ws vacant
    (record { changed = same n ∙ sets.changed; others = λ k other. same k ∙ sets.others k other }) dropped

-- a table whose room stays what it was is what it was
pub same_room : (s s' : List (Option TableState)) (n : ℕ) → SetsRoom s s' n → IsSome (slot_of s n)
    → (table_in s' n).room ≡ (table_in s n).room → SameSlots s s'
same_room s s' n sets there same k =
    elim (cases_eq k n) [
      | inl here ↦
          ap (slot_of s') here ∙ sets.changed ∙ ap (λ r. Some (with_room (table_in s n) r)) same ∙ own (slot_of s n) there
          ∙ sym (ap (slot_of s) here)
      | inr other ↦ sets.others k other
    ]
  where
    own : (o : Option TableState) → IsSome o → Some (with_room (unwrap_or o no_table) (unwrap_or o no_table).room) ≡ o
    own None h = absurd (cc)
    own (Some t) h = refl
