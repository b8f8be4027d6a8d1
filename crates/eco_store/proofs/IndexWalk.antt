-- What a walk over the indices finds is who stands in the tables of some slots.
use Rattle.eco_store.proofs.AnswersCommon.{◌≡◌, ◌≢◌, ℕ, zero, suc, ◌+◌, ◌<◌, Bool, true, false, cond, ◌||◌, nat_eq, List, [], ◌∷◌}
use Rattle.eco_store.proofs.AnswersCommon.{◌++◌, map, filter, length, drop, set, slice_get, get_or, Option, Some, option_map, option_to_list, refl, sym, ap}
use Rattle.eco_store.proofs.AnswersCommon.{◌∙◌, subst, arith, add-one, append_assoc, true≢false, All, AllByRecursion, list_any, Decides-eqb, get_or-set_other}
use Rattle.eco_store.proofs.AnswersCommon.{get_or-set_same, All-from_recursion, Contains-from_any, get_or_from_slice_get, slice_get-get_or, slice_get_within, Record}
use Rattle.eco_store.proofs.AnswersCommon.{Entity, Id, Indexed, IndexState, Retired, Free, Living, living_from, map_state, record_of, TableState, AllHaveIds}
use Rattle.eco_store.proofs.AnswersCommon.{slot_of}
use Rattle.eco_store.proofs.AnswersCommon.{table_in, Place, Registration, IsAllFound, row_at, entities_whose, passes, IsNumbering, slot_number, standing_by}
use Rattle.eco_store.proofs.AnswersCommon.{standing_from, standing_of, StandsIn, HasPlace, IsStore, read, record_for, record_ids, seat_at, seat_in, seat_of_place}
use Rattle.eco_store.proofs.AnswersCommon.{type_in_store, Standing, or_right, record_at}
use Rattle.std.proofs.Common.{drop-cons}
use Rattle.eco_archetypes.proofs.Holders.{found_matches, is_found_there, row_kept}
use Rattle.eco_archetypes.proofs.Seated.{one_some, read_record}
use Rattle.eco_archetypes.proofs.Shows.{has_place, shows}

-- ---- numbers

-- one more slot has its number
pub one_numbered : (slots : List ℕ) (count : ℕ) (numbers : List ℕ) (m : ℕ) → get_or slots count 0 ≡ m → m < length numbers
    → IsNumbering slots count numbers → IsNumbering slots (count + 1) (set numbers m (count + 1))
one_numbered slots count numbers m here within old = record {
  places = λ n k is. by n k (nat_eq n m) refl is;
  others = λ n k is below. other n k (nat_eq n m) refl is below;
}
  where
    at_m : (n : ℕ) → n ≡ m → slot_number (set numbers m (count + 1)) n ≡ count + 1
    at_m n e = ap (slot_number (set numbers m (count + 1))) e ∙ get_or-set_same numbers m (count + 1) 0 within

    beside : (n : ℕ) → nat_eq n m ≡ false → slot_number (set numbers m (count + 1)) n ≡ slot_number numbers n
    beside n e = get_or-set_other numbers m n (count + 1) 0 (λ same. true≢false (sym ((Decides-eqb n m).1 same) ∙ e))

    by : (n k : ℕ) (b : Bool) → nat_eq n m ≡ b → slot_number (set numbers m (count + 1)) n ≡ suc k → (k < count + 1) × (get_or slots k 0 ≡ n)
    by n k true e is =
        let same : n ≡ m = (Decides-eqb n m).0 e in
        let last : count + 1 ≡ suc k = sym (at_m n same) ∙ is in
        let k_is : k ≡ count = omega (arith, last) in
        (omega (arith, k_is), ap (λ j. get_or slots j 0) k_is ∙ here ∙ sym same)
    by n k false e is =
        let was = old.places n k (sym (beside n e) ∙ is) in
        (let low = was.0 in omega (arith, low), was.1)

    other : (n k : ℕ) (b : Bool) → nat_eq n m ≡ b → slot_number (set numbers m (count + 1)) n ≡ 0 → k < count + 1 → get_or slots k 0 ≢ n
    other n k true e is below = let bad : count + 1 ≡ 0 = sym (at_m n ((Decides-eqb n m).0 e)) ∙ is in absurd (omega (arith, bad))
    other n k false e is below = λ same. cases same (nat_eq k count) refl
      where
        cases : get_or slots k 0 ≡ n → (b : Bool) → nat_eq k count ≡ b → ⊥
        cases same true last =
            true≢false (sym ((Decides-eqb n m).1 (sym same ∙ ap (λ j. get_or slots j 0) ((Decides-eqb k count).0 last) ∙ here)) ∙ e)
        cases same false less =
            let apart : k ≢ count = λ q. true≢false (sym ((Decides-eqb k count).1 q) ∙ less) in
            old.others n k (sym (beside n e) ∙ is) (omega (arith, below, apart)) same

-- ---- the walk

-- the number is one of a place
abbrev is_given : ℕ → Bool
is_given zero = false
is_given (suc k) = true

-- one more index is done
pub walk_step : (numbers : List ℕ) (states : List (IndexState Registration)) (i : ℕ) (items more all : List Standing) (o : Option Standing)
    → i < length states → o ≡ standing_of numbers i (seat_in (slice_get states i)) → more ≡ items ++ option_to_list o
    → items ++ standing_from numbers i (drop i states) ≡ all → more ++ standing_from numbers (i + 1) (drop (i + 1) states) ≡ all
walk_step numbers states i items more all o within is added so_far =
    let d : IndexState Registration = Retired in
    let rest : List Standing = standing_from numbers (i + 1) (drop (suc i) states) in
    let one : List Standing = option_to_list (standing_of numbers i (seat_in (Some (get_or states i d)))) in
    ap (λ j. more ++ standing_from numbers (i + 1) (drop j states)) (add-one i)
    ∙ ap (λ z. z ++ rest)
    (added ∙ ap (λ z. items ++ option_to_list z) (is ∙ ap (λ x. standing_of numbers i (seat_in x)) (slice_get-get_or states i d within)))
    ∙ append_assoc items one rest
    ∙ ap (λ z. items ++ standing_from numbers i z) (sym (drop-cons states i d within))
    ∙ so_far

-- the slot at a place is listed
listed_at : (slots : List ℕ) (k n : ℕ) → k < length slots → get_or slots k 0 ≡ n → list_any (nat_eq n) slots ≡ true
listed_at [] k n within at = absurd (omega (arith, within))
listed_at (m ∷ slots) zero n within at = ap (λ b. b || list_any (nat_eq n) slots) ((Decides-eqb n m).1 (sym at))
listed_at (m ∷ slots) (suc k) n within at = or_right (nat_eq n m) (list_any (nat_eq n) slots) (listed_at slots k n (omega (arith, within)) at)

-- a listed slot has a place
place_listed : (slots : List ℕ) (n : ℕ) → list_any (nat_eq n) slots ≡ true → (k : ℕ) × (k < length slots) × (get_or slots k 0 ≡ n)
place_listed slots n h =
    let c = Contains-from_any (λ x y. (Decides-eqb x y).0) n slots h in
    (c.0, c.1, get_or_from_slice_get slots c.0 n 0 (slice_get-get_or slots c.0 n c.1 ∙ ap Some c.2))

module _ (w : Indexed Registration) (tables : List (Option TableState)) (store : IsStore w tables) (own : AllHaveIds tables) where
  abbrev kept : Registration → Record
  kept r = record_for (row_at tables) r

  abbrev handle : ℕ → ℕ → Entity
  handle i g = record { index = i; generation = g }

  -- who lives at an index has a place, and the ids of its table
  abbrev Sits : ℕ → ℕ → Registration → Type 0
  Sits i g r =
      (p : Place) × (r.place ≡ Some p) × (0 < length (table_in tables p.table).rows) × (record_ids (kept r) ≡ (table_in tables p.table).ids)
      × (type_in_store (read w tables) (handle i g) ≡ Some (table_in tables p.table).ids)

  sits : (i g : ℕ) (r : Registration) → slice_get w.indices i ≡ Some (Living g r) → Sits i g r
  sits i g r at =
      let place = has_place r.place (subst HasPlace at (store.placed i)) in
      let p : Place = place.0 in
      let seat : seat_at w i ≡ Some (seat_of_place g p) = ap seat_in at ∙ ap (option_map (seat_of_place g)) place.1 in
      let row = store.seated.there i (seat_of_place g p) seat in
      let mine = read_record w tables (handle i g) r (record_at w (handle i g) r at) in
      let known = row_kept (read w tables) tables (λ ids. true) (shows w tables store own) p.table p.row row.0 row.1 in
      let same : known.0 ≡ kept r = one_some _ _ _ (sym (ap (record_of (read w tables)) row.2) ∙ known.1) mine in
      let ids : record_ids (kept r) ≡ (table_in tables p.table).ids = ap record_ids (sym same) ∙ known.2 in
      let within = slice_get_within (table_in tables p.table).rows p.row row.0 row.1 in
      (p, place.1, omega (arith, within), ids, ap (option_map record_ids) mine ∙ ap Some ids)

  -- these are the states from an index on
  abbrev AreFrom : ℕ → List (IndexState Registration) → Type 0
  AreFrom i states = (k : ℕ) → slice_get states k ≡ slice_get w.indices (i + k)

  next : (i : ℕ) (s : IndexState Registration) (states : List (IndexState Registration)) → AreFrom i (s ∷ states) → AreFrom (i + 1) states
  next i s states from k = let e : i + suc k ≡ i + 1 + k = omega arith in from (suc k) ∙ ap (slice_get w.indices) e

  first : (i g : ℕ) (r : Registration) (states : List (IndexState Registration)) → AreFrom i (Living g r ∷ states) → Sits i g r
  first i g r states from = let e : i ≡ i + 0 = omega arith in sits i g r (ap (slice_get w.indices) e ∙ sym (from 0))

  module _ (slots numbers : List ℕ) (numbering : IsNumbering slots (length slots) numbers) where
    module _ (test : List Id → Bool) (found : IsAllFound test tables slots) where
      -- a table's slot has a number exactly where its type passes
      passing : (n k : ℕ) → 0 < length (table_in tables n).rows → slot_number numbers n ≡ k → test (table_in tables n).ids ≡ is_given k
      passing n zero rows is = by (test (table_in tables n).ids) refl
        where
          by : (b : Bool) → test (table_in tables n).ids ≡ b → b ≡ false
          by false e = refl
          by true e =
              let at = place_listed slots n (found.listed n ∙ is_found_there test (slot_of tables n) rows e) in
              absurd (numbering.others n at.0 is at.1 at.2)
      passing n (suc k) rows is =
          let at = numbering.places n k is in
          found_matches test (slot_of tables n) (sym (found.listed n) ∙ listed_at slots k n at.0 at.1)

      abbrev passed : Entity × Record → Bool
      passed x = passes test x.1

      -- one entity is in both lists or in none
      one_more : (e : Entity) (x : Record) (k : ℕ) (list : List Standing) (lives : List (Entity × Record)) → passes test x ≡ is_given k
          → map (λ (s : Standing). s.entity) list ≡ map (λ y. y.0) (filter passed lives)
          → map (λ (s : Standing). s.entity) (option_to_list (standing_by e k) ++ list) ≡ map (λ y. y.0) (filter passed ((e, x) ∷ lives))
      one_more e x zero list lives is rest =
          rest ∙ ap (λ b. map (λ (y : Entity × Record). y.0) (cond b ((e, x) ∷ filter passed lives) (filter passed lives))) (sym is)
      one_more e x (suc k) list lives is rest =
          ap (λ es. e ∷ es) rest
          ∙ ap (λ b. map (λ (y : Entity × Record). y.0) (cond b ((e, x) ∷ filter passed lives) (filter passed lives))) (sym is)

      whose_from : (i : ℕ) (states : List (IndexState Registration)) → AreFrom i states
          → map (λ (s : Standing). s.entity) (standing_from numbers i states)
          ≡ map (λ y. y.0) (filter passed (living_from i (map (map_state kept) states)))
      whose_from i [] from = refl
      whose_from i (Retired ∷ states) from = whose_from (i + 1) states (next i Retired states from)
      whose_from i (Free g ∷ states) from = whose_from (i + 1) states (next i (Free g) states from)
      whose_from i (Living g r ∷ states) from =
          let here = first i g r states from in
          let n : ℕ = here.0.table in
          ap (λ o. map (λ (s : Standing). s.entity)
          (option_to_list (standing_of numbers i (option_map (seat_of_place g) o)) ++ standing_from numbers (i + 1) states)) here.1
          ∙ one_more (handle i g) (kept r) (slot_number numbers n) _ _ (ap test here.3 ∙ passing n (slot_number numbers n) here.2 refl)
          (whose_from (i + 1) states (next i (Living g r) states from))

      -- who is found by the walk is who passes
      pub walked_whose : map (λ (s : Standing). s.entity) (standing_from numbers 0 w.indices) ≡ entities_whose (read w tables) test
      walked_whose = whose_from 0 w.indices (λ k. let e : k ≡ 0 + k = omega arith in ap (slice_get w.indices) e)

    -- the entity has the ids of the table that its number says
    placed_one : (e : Entity) (n k : ℕ) (list : List Standing) → slot_number numbers n ≡ k
        → type_in_store (read w tables) e ≡ Some (table_in tables n).ids
        → AllByRecursion (StandsIn (read w tables) tables slots) list
        → AllByRecursion (StandsIn (read w tables) tables slots) (option_to_list (standing_by e k) ++ list)
    placed_one e n zero list is typed rest = rest
    placed_one e n (suc k) list is typed rest =
        let at = numbering.places n k is in
        ((at.0, typed ∙ ap (λ m. Some (table_in tables m).ids) (sym at.1)), rest)

    placed_from : (i : ℕ) (states : List (IndexState Registration)) → AreFrom i states
        → AllByRecursion (StandsIn (read w tables) tables slots) (standing_from numbers i states)
    placed_from i [] from = tt
    placed_from i (Retired ∷ states) from = placed_from (i + 1) states (next i Retired states from)
    placed_from i (Free g ∷ states) from = placed_from (i + 1) states (next i (Free g) states from)
    placed_from i (Living g r ∷ states) from =
        let here = first i g r states from in
        subst (λ o. AllByRecursion (StandsIn (read w tables) tables slots)
        (option_to_list (standing_of numbers i (option_map (seat_of_place g) o)) ++ standing_from numbers (i + 1) states)) (sym here.1)
        (placed_one (handle i g) here.0.table (slot_number numbers here.0.table) _ refl here.4 (placed_from (i + 1) states (next i (Living g r) states from)))

    -- each stands in the table at its place
    pub walked_placed : All (StandsIn (read w tables) tables slots) (standing_from numbers 0 w.indices)
    walked_placed =
        All-from_recursion (StandsIn (read w tables) tables slots) (standing_from numbers 0 w.indices)
        (placed_from 0 w.indices (λ k. let e : k ≡ 0 + k = omega arith in ap (slice_get w.indices) e))
