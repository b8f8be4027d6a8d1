-- Sums of many rows.
use Rattle.eco_bodies.proofs.Common.{◌≡◌, ℕ, ◌+◌, ◌<◌, ◌≤◌, true, false, List, [], ◌∷◌, ◌++◌, length, drop, get_or, slice_get}
use Rattle.eco_bodies.proofs.Common.{Option}
use Rattle.eco_bodies.proofs.Common.{None, Some, refl, sym, ap, ◌∙◌, arith, append_assoc, cond, flat_map, Entity, Id, Pattern, matches_one}
use Rattle.eco_bodies.proofs.Common.{Action, IsTrue, Sum, subst, suc, true≢false, zero}
use Rattle.std.proofs.lemmas.List.{append-nil, drop_more, nil_from_length, length-drop}
use Rattle.std.proofs.lemmas.Option.{none-some, same_Some}
use Rattle.std.specs.List.{AllByRecursion}
use Rattle.std.specs.Prelude.{option_and_then, option_map, option_to_list}
use Rattle.eco_ids.specs.declared.value.Value.{Value}
use Rattle.eco_ids.specs.Run.{Command, Set}
use Rattle.eco_systems.specs.Rows.{ValuedRow}
use Rattle.eco_bodies.specs.Lent.{item_at}
use Rattle.eco_bodies.specs.RowSums.{set_both, set_sum_of, set_sums_from}
use Rattle.eco_bodies.specs.Scripts.{are_summed, fits_action, script_commands, script_taken, set_of, sum_at}
use Rattle.eco_bodies.specs.Sums.{sum_of_both}
use Rattle.eco_bodies.specs.Taking.{AllTook, commands_in_turn, taken_of}

-- ---- rows of columns

module _ (one other : List Value) (i : Id) (first : ℕ) (entities : List Entity) where
  -- what is left to record from one of the entities on
  abbrev pub left_from : ℕ → List Command
  left_from k = set_sums_from one other i (first + k) (drop k entities)

  abbrev all : List Command
  all = set_sums_from one other i first entities

  pub none_recorded : (old : List Command) → old ++ left_from 0 ≡ old ++ all
  none_recorded old = let start : first + 0 ≡ first = omega arith in ap (λ n. old ++ set_sums_from one other i n entities) start

  pub more_recorded : (k : ℕ) (d : Entity) (old now new : List Command) → k < length entities → now ++ left_from k ≡ old ++ all
      → new ≡ now ++ set_both (get_or entities k d) i (slice_get one (first + k)) (slice_get other (first + k))
      → new ++ left_from (k + 1) ≡ old ++ all
  more_recorded k d old now new there so_far step =
      let row = first + k in
      let next : row + 1 ≡ first + (k + 1) = omega arith in
      let this = set_both (get_or entities k d) i (slice_get one row) (slice_get other row) in
      ap (λ l. l ++ left_from (k + 1)) step
      ∙ append_assoc now this _
      ∙ ap (λ n. now ++ (this ++ set_sums_from one other i n (drop (k + 1) entities))) (sym next)
      ∙ ap (λ es. now ++ set_sums_from one other i row es) (sym (drop_more entities k d there))
      ∙ so_far

  pub all_recorded : (k : ℕ) (old now : List Command) → length entities ≤ k → now ++ left_from k ≡ old ++ all → now ≡ old ++ all
  all_recorded k old now past so_far =
      let len = length-drop k entities in
      let none : drop k entities ≡ [] = nil_from_length _ (omega (arith, past, len)) in
      sym (append-nil now) ∙ ap (λ es. now ++ set_sums_from one other i (first + k) es) (sym none) ∙ so_far

-- ---- rows of slots

-- what holds of each row holds of all
same_all : (entries : List (Option Id)) (f g : ValuedRow → List Command) → ((row : ValuedRow) → row.entries ≡ entries → f row ≡ g row)
    → (rows : List ValuedRow) → AllByRecursion (λ row. row.entries ≡ entries) rows → flat_map f rows ≡ flat_map g rows
same_all entries f g same [] shared = refl
same_all entries f g same (row ∷ rows) shared =
    ap (λ l. l ++ flat_map f rows) (same row shared.0) ∙ ap (λ l. g row ++ l) (same_all entries f g same rows shared.1)

-- what is so of all is so of each
pub so_of_each : {A : Type 0} (P : A → Type 0) (xs : List A) (k : ℕ) (x : A) → AllByRecursion P xs → slice_get xs k ≡ Some x → P x
so_of_each P [] k x all at = absurd (none-some x at)
so_of_each P (y ∷ ys) zero x all at = subst P (same_Some y x at) all.0
so_of_each P (y ∷ ys) (suc k) x all at = so_of_each P ys k x all.1 at

abbrev nothing : ValuedRow → List Command
nothing row = []

none_of : (rows : List ValuedRow) → flat_map nothing rows ≡ []
none_of [] = refl
none_of (row ∷ rows) = none_of rows

module _ (writes : List Pattern) (into from : ℕ) where
  -- what a sum sets in a row
  abbrev pub set_in : ValuedRow → List Command
  set_in row = option_to_list (set_of writes row.entity (item_at row.entries into) (sum_at row into from))

  -- by the entries and values of its slots
  abbrev set_by : Entity → Option Id → Option Id → Option Value → Option Value → List Command
  set_by e i j a b = option_to_list (set_of writes e i (sum_of_both (option_and_then (λ _. a) i) (option_and_then (λ _. b) j)))

  no_from : (e : Entity) (i : Option Id) (a b : Option Value) → set_by e i None a b ≡ []
  no_from e None a b = refl
  no_from e (Some i) None b = refl
  no_from e (Some i) (Some v) b = refl

  unmatched : (e : Entity) (i : Id) (o : Option Value) → matches_one writes i ≡ false → option_to_list (set_of writes e (Some i) o) ≡ []
  unmatched e i None none = refl
  unmatched e i (Some v) none = ap (λ b. option_to_list (cond b (Some (Set e i v)) None)) none

  matched : (e : Entity) (i : Id) (o : Option Value) → matches_one writes i ≡ true
      → option_to_list (set_of writes e (Some i) o) ≡ option_to_list (option_map (λ sum. Set e i sum) o)
  matched e i None matches = refl
  matched e i (Some v) matches = ap (λ b. option_to_list (cond b (Some (Set e i v)) None)) matches

  module _ (entries : List (Option Id)) (rows : List ValuedRow) (shared : AllByRecursion (λ row. row.entries ≡ entries) rows) where
    at_slots : (row : ValuedRow) → row.entries ≡ entries → set_in row
        ≡ set_by row.entity (item_at entries into) (item_at entries from) (item_at row.values into) (item_at row.values from)
    at_slots row is =
        ap (λ es. set_by row.entity (item_at es into) (item_at es from) (item_at row.values into) (item_at row.values from)) is

    pub nothing_into : (old : List Command) → item_at entries into ≡ None → old ≡ old ++ flat_map set_in rows
    nothing_into old none =
        sym (append-nil old) ∙ ap (λ l. old ++ l) (sym (same_all entries set_in nothing (λ row is.
        at_slots row is
        ∙ ap (λ o. set_by row.entity o (item_at entries from) (item_at row.values into) (item_at row.values from)) none) rows shared ∙ none_of rows))

    pub nothing_from : (old : List Command) → item_at entries from ≡ None → old ≡ old ++ flat_map set_in rows
    nothing_from old none =
        sym (append-nil old) ∙ ap (λ l. old ++ l) (sym (same_all entries set_in nothing (λ row is.
        at_slots row is
        ∙ ap (λ o. set_by row.entity (item_at entries into) o (item_at row.values into) (item_at row.values from)) none
        ∙ no_from row.entity (item_at entries into) (item_at row.values into) (item_at row.values from)) rows shared ∙ none_of rows))

    pub nothing_matched : (i : Id) (old : List Command) → item_at entries into ≡ Some i → matches_one writes i ≡ false
        → old ≡ old ++ flat_map set_in rows
    nothing_matched i old at none =
        sym (append-nil old) ∙ ap (λ l. old ++ l) (sym (same_all entries set_in nothing (λ row is.
        at_slots row is
        ∙ ap (λ o. set_by row.entity o (item_at entries from) (item_at row.values into) (item_at row.values from)) at
        ∙ unmatched row.entity i _ none) rows shared ∙ none_of rows))

    pub sums_set : (i j : Id) (old new : List Command) → item_at entries into ≡ Some i → item_at entries from ≡ Some j
        → matches_one writes i ≡ true → new ≡ old ++ flat_map (set_sum_of into from i) rows → new ≡ old ++ flat_map set_in rows
    sums_set i j old new at other matches are =
        are ∙ ap (λ l. old ++ l) (sym (same_all entries set_in (set_sum_of into from i) (λ row is.
        at_slots row is
        ∙ ap (λ o. set_by row.entity o (item_at entries from) (item_at row.values into) (item_at row.values from)) at
        ∙ ap (λ o. set_by row.entity (Some i) o (item_at row.values into) (item_at row.values from)) other
        ∙ matched row.entity i _ matches) rows shared))

  -- a row that has what a sum asks
  pub fit_set : (row : ValuedRow) (i : Id) → item_at row.entries into ≡ Some i → IsTrue (fits_action writes row.entries (Sum into from))
      → set_sum_of into from i row ≡ set_in row
  fit_set row i at fits =
      let a = item_at row.values into in
      let b = item_at row.values from in
      by_other (item_at row.entries from) (subst (λ o. IsTrue (are_summed writes o (item_at row.entries from))) at fits)
      ∙ ap (λ o. set_by row.entity o (item_at row.entries from) a b) (sym at)
    where
      by_other : (j : Option Id) → IsTrue (are_summed writes (Some i) j)
          → set_both row.entity i (item_at row.values into) (item_at row.values from)
          ≡ set_by row.entity (Some i) j (item_at row.values into) (item_at row.values from)
      by_other (Some j) matches = sym (matched row.entity i (sum_of_both (item_at row.values into) (item_at row.values from)) matches)
      by_other None none = absurd (true≢false (sym none))

  -- ---- a script of one sum

  abbrev only : List Action
  only = Sum into from ∷ []

  takes_none : (rows : List ValuedRow) (draws : List Entity) → taken_of (script_taken only) rows draws ≡ 0
  takes_none [] draws = refl
  takes_none (row ∷ rows) draws = let left = takes_none rows draws in omega (arith, left)

  in_turn : (rows : List ValuedRow) (draws : List Entity) → commands_in_turn (script_commands writes only) (script_taken only) rows draws
      ≡ flat_map set_in rows
  in_turn [] draws = refl
  in_turn (row ∷ rows) draws =
      ap (λ l. l ++ commands_in_turn (script_commands writes only) (script_taken only) rows draws) (append-nil (set_in row))
      ∙ ap (λ l. set_in row ++ l) (in_turn rows draws)

  only_sums : (rows : List ValuedRow) (so_far : List Entity) (old new : List Command) → new ≡ old ++ flat_map set_in rows
      → AllTook (script_commands writes only) (script_taken only) rows so_far so_far old new
  only_sums rows so_far old new are =
      ([], sym (append-nil so_far), λ later. (takes_none rows later, are ∙ ap (λ l. old ++ l) (sym (in_turn rows later))))

  alone : (actions : List Action) (a : Action) → length actions ≡ 1 → get_or actions 0 a ≡ Sum into from → actions ≡ only
  alone [] a long is = absurd (omega (arith, long))
  alone (x ∷ []) a long is = ap (λ y. y ∷ []) is
  alone (x ∷ y ∷ actions) a long is = absurd (omega (arith, long))

  pub alone_took : (actions : List Action) (a : Action) → length actions ≡ 1 → get_or actions 0 a ≡ Sum into from
      → (rows : List ValuedRow) (so_far : List Entity) (old new : List Command) → new ≡ old ++ flat_map set_in rows
      → AllTook (script_commands writes actions) (script_taken actions) rows so_far so_far old new
  alone_took actions a long is rows so_far old new are =
      rw (alone actions a long is) (only_sums rows so_far old new are)
