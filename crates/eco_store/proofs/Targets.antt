-- Targets stay while tables change.
use Rattle.eco_store.proofs.Common.{◌≡◌, ℕ, ◌≤◌, Bool, true, false, true≢false, ◌||◌, IsTrue, if◌then◌else◌, List, []}
use Rattle.eco_store.proofs.Common.{◌∷◌, KeepsRoomIn, not}
use Rattle.eco_store.proofs.Common.{◌++◌, Option, Some, None, unwrap_or, OnSome, IfNone, nat_eq, refl, sym, ap, ◌∙◌, arith, list_any, list_any-append}
use Rattle.eco_store.proofs.Common.{Id, TableState, table_in, no_table, SetsSlot, KeepsRoom, SameSlots, StayingState, with_target, SameIn}
use Rattle.eco_store.proofs.RowChanges.{is_equal}
use Rattle.eco_store.proofs.Views.{at_each}

-- a target stays one
pub still_targeted : (p : StayingState) (n m : ℕ) → IsTrue (list_any (nat_eq m) p.targets) → IsTrue (list_any (nat_eq m) (with_target p n).targets)
still_targeted p n m = by (list_any (nat_eq n) p.targets)
  where
    by : (b : Bool) → IsTrue (list_any (nat_eq m) p.targets) → IsTrue (list_any (nat_eq m) (if b then p.targets else p.targets ++ n ∷ []))
    by true h = h
    by false h = list_any-append (nat_eq m) p.targets (n ∷ []) ∙ ap (λ b. b || list_any (nat_eq m) (n ∷ [])) h

-- the slot is one of the targets
pub is_targeted : (p : StayingState) (n : ℕ) → IsTrue (list_any (nat_eq n) (with_target p n).targets)
is_targeted p n = by (list_any (nat_eq n) p.targets) refl
  where
    by : (b : Bool) → list_any (nat_eq n) p.targets ≡ b → IsTrue (list_any (nat_eq n) (if b then p.targets else p.targets ++ n ∷ []))
    by true h = h
    by false h = list_any-append (nat_eq n) p.targets (n ∷ []) ∙ ap (λ b. b || list_any (nat_eq n) (n ∷ [])) h
        ∙ ap (λ b. b || false) (is_equal n n refl)

-- the table in a slot that is no target has changed
pub same_but : (s s' : List (Option TableState)) (targets : List ℕ) (n : ℕ) (o : Option TableState) → list_any (nat_eq n) targets ≡ false
    → SetsSlot s s' n o → SameIn s s' targets
same_but s s' targets n o free sets m among = sets.others m (λ same. true≢false (sym among ∙ ap (λ k. list_any (nat_eq k) targets) same ∙ free))

-- a table that is no target may have gone
pub same_targets : (s s' : List (Option TableState)) (targets : List ℕ) (n : ℕ) (o : Option (List Id)) → list_any (nat_eq n) targets ≡ false
    → OnSome o (SetsSlot s s' n None) → IfNone o (SameSlots s s') → SameIn s s' targets
same_targets s s' targets n (Some ids) free dropped kept m among = same_but s s' targets n None free dropped m among
same_targets s s' targets n None free dropped kept m among = kept m

not_named : (b : Bool) → true ≡ not b → b ≡ false
not_named true is = absurd (true≢false is)
not_named false is = refl

-- a slot that was no target loses its room
pub room_waived : (s s1 s2 : List (Option TableState)) (targets : List ℕ) (n : ℕ) (o : Option TableState) → KeepsRoom s s1
    → true ≡ not (list_any (nat_eq n) targets) → SetsSlot s1 s2 n o → KeepsRoomIn s s2 targets
room_waived s s1 s2 targets n o kept free sets m among =
    let had = kept m in
    let same =
    ap (λ o. (unwrap_or o no_table).room)
    (sets.others m (λ is. true≢false (sym among ∙ ap (λ k. list_any (nat_eq k) targets) is ∙ not_named _ free))) in
    omega (arith, had, same)

-- a table changes and has no less room, and so has none
pub room_won : (s s1 : List (Option TableState)) (n : ℕ) (t : TableState) → SetsSlot s s1 n (Some t) → (table_in s n).room ≤ t.room → KeepsRoom s s1
room_won s s1 n t sets more =
    at_each n (λ m. (table_in s m).room ≤ (table_in s1 m).room)
    (let now : (table_in s1 n).room ≡ t.room = ap (λ o. (unwrap_or o no_table).room) sets.changed in omega (arith, now, more))
    (λ m other. let same = ap (λ o. (unwrap_or o no_table).room) (sets.others m other) in omega (arith, same))
