-- What stands at the slots of a row that its query answers.
use Rattle.eco_bodies.proofs.Common.{◌≡◌, ℕ, cond, ◌||◌, List, [], ◌∷◌, ◌++◌, length, refl, sym, ap, ◌∙◌, subst, IsTrue}
use Rattle.eco_bodies.proofs.Common.{inl, inr, Option, Some, None, arith, eqb-true, true≢false, list_any, list_any-append, none-some, Id, Pattern}
use Rattle.eco_bodies.proofs.Common.{pattern_matches, or_left, or_parts, or_right, slice_get, QuerySlot, matches_one, action_writes, asks_presence}
use Rattle.eco_bodies.proofs.Common.{patterns_at, script_writes, slot_at, Action, AddId, RemoveId, Put, Sum, Kill, Spawn}
use Rattle.std.specs.Option.{option_and_then, unwrap_or}
use Rattle.eco_ids.specs.Terms.{QueryTerm, And, Not, Optional, Or}
use Rattle.eco_query.specs.Queries.{patterns_of}
use Rattle.eco_query.specs.declared.access.Access.{Access}
use Rattle.eco_systems.specs.Laws.{EntriesAreRead}
use Rattle.eco_bodies.specs.Laws.{OwnEntriesAreSet, sets_slot}

-- beginnings of one list, as long as one another, are one
pub same_beginning : {A : Type 0} (xs ys rest later : List A) → length xs ≡ length ys → xs ++ rest ≡ ys ++ later → xs ≡ ys
same_beginning [] [] rest later long h = refl
same_beginning [] (y ∷ ys) rest later long h = absurd (omega (arith, long))
same_beginning (x ∷ xs) [] rest later long h = absurd (omega (arith, long))
same_beginning {A} (x ∷ xs) (y ∷ ys) rest later long h =
    let shorter : length xs ≡ length ys = omega (arith, long) in
    let heads : x ≡ y = ap head h in
    let tails : xs ≡ ys = same_beginning xs ys rest later shorter (ap tail h) in
    λ i. heads i ∷ tails i
  where
    head : List A → A
    head [] = x
    head (z ∷ zs) = z

    tail : List A → List A
    tail [] = []
    tail (z ∷ zs) = zs

-- ---- what a script writes

-- a slot that is no `!` slot is known by its number
at_slot : (slots : List QuerySlot) (n : ℕ) (i : Id) (access : Access) (term : QueryTerm)
    → slice_get slots n ≡ Some (record { access = access; term = term })
    → IsTrue (matches_one (patterns_of term) i) → ((p : Pattern) → term ≡ Not p → ⊥) → IsTrue (matches_one (patterns_at (slot_at slots n)) i)
at_slot slots n i access term at h entry =
    subst (λ (o : Option QuerySlot). IsTrue (matches_one (patterns_at (option_and_then (λ s. cond (asks_presence s.term) (Some s) None) o)) i)) (sym at)
    (by term h entry)
  where
    by : (t : QueryTerm) → IsTrue (matches_one (patterns_of t) i) → ((p : Pattern) → t ≡ Not p → ⊥)
        → IsTrue (matches_one (patterns_at (cond (asks_presence t) (Some (record { access = access; term = t })) None)) i)
    by (And p) h entry = h
    by (Not p) h entry = absurd (entry p refl)
    by (Optional j) h entry = h
    by (Or is) h entry = h

-- what stands at a slot stands in the list
entry_at : (i : Id) (o : Option (Option Id)) → unwrap_or o None ≡ Some i → o ≡ Some (Some i)
entry_at i None at = absurd (none-some i at)
entry_at i (Some o) at = ap Some at

action_writes_slot : (slots : List QuerySlot) (a : Action) (n : ℕ) (i : Id) → IsTrue (sets_slot n a)
    → IsTrue (matches_one (patterns_at (slot_at slots n)) i)
    → IsTrue (matches_one (action_writes slots a) i)
action_writes_slot slots (AddId j) n i h m = absurd (true≢false (sym h))
action_writes_slot slots (RemoveId j) n i h m = absurd (true≢false (sym h))
action_writes_slot slots (Put slot value) n i h m = subst (λ k. IsTrue (matches_one (patterns_at (slot_at slots k)) i)) (sym (eqb-true slot n h)) m
action_writes_slot slots (Sum into from) n i h m = subst (λ k. IsTrue (matches_one (patterns_at (slot_at slots k)) i)) (sym (eqb-true into n h)) m
action_writes_slot slots Kill n i h m = absurd (true≢false (sym h))
action_writes_slot slots (Spawn j) n i h m = absurd (true≢false (sym h))

writes_slot : (slots : List QuerySlot) (actions : List Action) (n : ℕ) (i : Id) → IsTrue (list_any (sets_slot n) actions)
    → IsTrue (matches_one (patterns_at (slot_at slots n)) i) → IsTrue (matches_one (script_writes slots actions) i)
writes_slot slots [] n i h m = absurd (true≢false (sym h))
writes_slot slots (a ∷ actions) n i h m =
    list_any-append (λ p. pattern_matches p i) (action_writes slots a) (script_writes slots actions)
    ∙ elim (or_parts (sets_slot n a) (list_any (sets_slot n) actions) h) as (λ _.
    IsTrue (matches_one (action_writes slots a) i || matches_one (script_writes slots actions) i)) [
      | inl k ↦ or_left _ _ (action_writes_slot slots a n i k m)
      | inr k ↦ or_right (matches_one (action_writes slots a) i) _ (writes_slot slots actions n i k m)
    ]

pub own_entries : EntriesAreRead → OwnEntriesAreSet
own_entries read w slots actions row n i there sets at =
    let (s, is, matches, entry) = read w slots row n i there (entry_at i (slice_get row.entries n) at) in
    writes_slot slots actions n i sets (at_slot slots n i s.access s.term is matches entry)
