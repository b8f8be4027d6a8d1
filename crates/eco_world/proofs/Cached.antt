-- What is found for a query's slots with their accesses is found for what they ask.
use Rattle.eco_world.proofs.Common.{◌≡◌, ℕ, ◌&&◌, Bool, List, [], ◌∷◌, Some, IsTrue, slice_get, refl, ap, subst, Id, OutOfMemory, ListedTable}
use Rattle.eco_world.proofs.Common.{WorldState, QuerySlot, holds, matches_type, asked, ListsFor, OfQuery, RefusesQuery, all_slots_hold, ListsBy, is_passed}

-- a type matches the query where what the query asks holds on it
fulfilled : (q : List QuerySlot) (ids : List Id) → matches_type ids q ≡ all_slots_hold (asked q) ids
fulfilled [] ids = refl
fulfilled (s ∷ q) ids = ap (λ b. holds ids s.term && b) (fulfilled q ids)

same_test : (q : List QuerySlot) → (λ (ids : List Id). matches_type ids q) ≡ all_slots_hold (asked q)
same_test q = λ t ids. fulfilled q ids t

module _ (w : WorldState) (n : ℕ) (q : List QuerySlot) (at : slice_get w.queries n ≡ Some (asked q)) where
  -- the tables that the query matches are those for what it asks
  pub listed_for : (tables : List ListedTable) → ListsBy w (λ ids. matches_type ids q) tables → OfQuery w n (λ slots. ListsFor w slots tables)
  listed_for tables lists = rw at (subst (λ (test : List Id → Bool). ListsBy w test tables) (same_test q) lists)

  -- memory was wanting for them
  pub refused_for : IsTrue (is_passed w (λ ids. matches_type ids q)) → RefusesQuery w n (λ slots. is_passed w (all_slots_hold slots)) OutOfMemory
  refused_for some = rw at (refl, subst (λ (test : List Id → Bool). IsTrue (is_passed w test)) (same_test q) some)
