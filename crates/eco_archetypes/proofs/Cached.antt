-- What the slots of a cache find.
use Rattle.eco_archetypes.proofs.Common.{◌≡◌, ℕ, ◌+◌, Bool, true, false, true≢false, cond, ◌&&◌, ◌||◌, nat_eq, nat_lt, List, []}
use Rattle.eco_archetypes.proofs.Common.{◌∷◌, length, filter, take, Option, Some, None, option_map, unwrap_or, IsTrue, IfSome, Result, Ok, Err, IfOk}
use Rattle.eco_archetypes.proofs.Common.{OnErr, refl, sym, ap, ◌∙◌, arith, list_any, IsDistinct, Decides-eqb, any-filter_same, Id, both, or_left}
use Rattle.eco_archetypes.proofs.Common.{or_right, QuerySlot, matches_type, TableState, slot_of, no_table, AreThose, fulfils, type_at, passes_at, has_rows}
use Rattle.eco_archetypes.proofs.Common.{is_found_by, ArePassing, FindsSome, IsAllFound}
use Rattle.eco_index.proofs.Listings.{distinct_filtered}
use Rattle.eco_archetypes.proofs.Copying.{taken_more, taken_past}

abbrev Slots : Type 0
Slots = List (Option TableState)

-- the types that fulfil a query are those that pass
pub passing_those : (test : List Id → Bool) (s : Slots) (q : List QuerySlot) (found : List ℕ) → ((ids : List Id) → test ids ≡ matches_type ids q)
    → AreThose (type_at s) q found → ArePassing test s found
passing_those test s q found same those n = those n ∙ by (type_at s n)
  where
    by : (o : Option (List Id)) → fulfils o q ≡ passes_at test o
    by None = refl
    by (Some ids) = sym (same ids)

module _ (test : List Id → Bool) (s : Slots) where
  both_found : (n : ℕ) → (has_rows s n && passes_at test (type_at s n)) ≡ is_found_by test (slot_of s n)
  both_found n = by (slot_of s n)
    where
      by : (o : Option TableState)
          → (nat_lt 0 (length (unwrap_or o no_table).rows) && passes_at test (option_map (λ (t : TableState). t.ids) o)) ≡ is_found_by test o
      by None = refl
      by (Some t) = refl

  -- those that have rows are all that are found
  pub rowed_found : (slots : List ℕ) → ArePassing test s slots → IsDistinct nat_eq slots → IsAllFound test s (filter (has_rows s) slots)
  rowed_found slots passing once = record {
    listed = λ n.
        any-filter_same (nat_eq n) (has_rows s) (has_rows s n) (λ k same. ap (has_rows s) (sym ((Decides-eqb n k).0 same))) slots
        ∙ ap (λ b. has_rows s n && b) (passing n) ∙ both_found n;
    distinct = distinct_filtered (has_rows s) slots once;
  }

  some_of : (slots : List ℕ) → ((n : ℕ) → list_any (nat_eq n) slots ≡ true → passes_at test (type_at s n) ≡ true)
      → list_any (has_rows s) slots ≡ true → FindsSome test s
  some_of [] passing h = absurd (true≢false (sym h))
  some_of (x ∷ xs) passing h =
      by (has_rows s x) refl (some_of xs (λ n in_it. passing n (or_right (nat_eq n x) (list_any (nat_eq n) xs) in_it))) h
    where
      by : (b : Bool) → has_rows s x ≡ b → (list_any (has_rows s) xs ≡ true → FindsSome test s) → (b || list_any (has_rows s) xs) ≡ true
          → FindsSome test s
      by true is later there =
          let passes = passing x (or_left (nat_eq x x) (list_any (nat_eq x) xs) ((Decides-eqb x x).1 refl)) in
          (x, sym (both_found x) ∙ both (has_rows s x) (passes_at test (type_at s x)) is passes)
      by false is later there = later there

  -- where one has rows, some table is found
  pub rowed_some : (slots : List ℕ) → ArePassing test s slots → list_any (has_rows s) slots ≡ true → FindsSome test s
  rowed_some slots passing h = some_of slots (λ n in_it. sym (passing n) ∙ in_it) h

  -- what a search among them answers
  pub answers_all : {E : Type 0} {V : Type 0} (items : V → List ℕ) (r : Result V E) (slots : List ℕ) → ArePassing test s slots
      → IsDistinct nat_eq slots
      → IfOk r (λ v. items v ≡ filter (has_rows s) slots) → IfOk r (λ v. IsAllFound test s (items v))
  answers_all items (Ok v) slots passing once is = rw is (rowed_found slots passing once)
  answers_all items (Err e) slots passing once is = is

  pub answers_some : {E V : Type 0} (r : Result V E) (slots : List ℕ) → ArePassing test s slots
      → OnErr r (IsTrue (list_any (has_rows s) slots)) → OnErr r (FindsSome test s)
  answers_some (Ok v) slots passing is = is
  answers_some (Err e) slots passing is = rowed_some slots passing is

-- a slot more is looked at
pub noted : (s : Slots) (k : ℕ) (q : List QuerySlot) (old new : List ℕ) (b : Bool) → b ≡ fulfils (type_at s k) q
    → ((n : ℕ) → list_any (nat_eq n) new ≡ cond (nat_eq k n && b) true (list_any (nat_eq n) old))
    → AreThose (type_at (take k s)) q old → AreThose (type_at (take (k + 1) s)) q new
noted s k q old new b is turns those n = turns n ∙ by (nat_eq k n) refl
  where
    type_in : Option TableState → Option (List Id)
    type_in o = option_map (λ t. t.ids) o

    only : (c x : Bool) → x ≡ false → cond c true x ≡ c
    only true x none = refl
    only false x none = none

    by : (c : Bool) → nat_eq k n ≡ c → cond (c && b) true (list_any (nat_eq n) old) ≡ fulfils (type_at (take (k + 1) s) n) q
    by true e =
        let here : k ≡ n = (Decides-eqb k n).0 e in
        let past : type_at (take k s) n ≡ None = ap (type_at (take k s)) (sym here) ∙ ap type_in (taken_past s k k (omega arith)) in
        only b (list_any (nat_eq n) old) (those n ∙ ap (λ o. fulfils o q) past) ∙ is
        ∙ ap (λ o. fulfils o q) (sym (ap (type_at (take (k + 1) s)) (sym here) ∙ ap type_in (taken_more s k (slot_of s k) refl).changed))
    by false e =
        those n ∙ ap (λ o. fulfils o q) (sym (ap type_in ((taken_more s k (slot_of s k) refl).others n
        (λ same. true≢false (sym ((Decides-eqb k n).1 (sym same)) ∙ e)))))

-- no slot is looked at yet
pub noted_none : (s : Slots) (q : List QuerySlot) → AreThose (type_at (take 0 s)) q []
noted_none s q n = refl

pub if_some : {T : Type 0} (P Q : T → Type 0) (o : Option T) → ((x : T) → P x → Q x) → IfSome o P → IfSome o Q
if_some P Q (Some x) f h = f x h
if_some P Q None f h = h
