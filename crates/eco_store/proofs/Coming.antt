-- Room for the entities that come, and what each of their moves leaves of it.
use Rattle.eco_store.proofs.Common.{◌≡◌, ◌≢◌, ℕ, ◌+◌, ◌-◌, ◌≤◌, ◌<◌, Bool, true, false, true≢false, IsTrue, All-nil}
use Rattle.eco_store.proofs.Common.{All-push, AreMovesReady, KeepsRoomIn, SameTypes, if◌then◌else◌, List, [], ◌∷◌, ◌++◌, map, length, get_or}
use Rattle.eco_store.proofs.Common.{slice_get, drop, Option, Some, None, is_some, option_map, unwrap_or, IsSome, nat_eq, refl, sym, ap, ◌∙◌, arith, All}
use Rattle.eco_store.proofs.Common.{list_any, length-map, map-append, get_or_default, All-head, All-tail, same_Some, Entity, Id, changed, change_kept, Indexed}
use Rattle.eco_store.proofs.Common.{is_alive, record_of, not_equal, TableState, slot_of, table_in, no_table, Moves, SetsSlot, type_at, KeepsTypes, moves_types}
use Rattle.eco_store.proofs.Common.{Move, arriving, AdmitsRow, AreTyped, HasRoomFor, SameIn}
use Rattle.std.proofs.Math.ListN.{get_or-map}
use Rattle.eco_store.proofs.RowChanges.{is_equal}
use Rattle.eco_store.proofs.Views.{at_each}

-- ---- types

abbrev wanted : Move → Option (List Id)
wanted m = Some m.type_list

-- the table in each slot has the type of its move
pub typed_at : (s : List (Option TableState)) (ms : List Move) (ns : List ℕ) (i : ℕ) (d : ℕ) (e : Move) → AreTyped s ms ns → i < length ms
    → type_at s (get_or ns i d) ≡ Some (get_or ms i e).type_list
typed_at s ms ns i d e typed within =
    let inside : i < length (map wanted ms) = rw (length-map ms wanted) within in
    sym (get_or-map (type_at s) ns i d) ∙ ap (λ xs. get_or xs i (type_at s d)) typed ∙ get_or_default (map wanted ms) i (type_at s d) (wanted e) inside
    ∙ get_or-map wanted ms i e

pub as_many : (s : List (Option TableState)) (ms : List Move) (ns : List ℕ) → AreTyped s ms ns → length ns ≡ length ms
as_many s ms ns typed = sym (length-map ns (type_at s)) ∙ ap length typed ∙ length-map ms wanted

typed_more : (s : List (Option TableState)) (ms : List Move) (ns : List ℕ) (m : Move) (n : ℕ) → AreTyped s ms ns → type_at s n ≡ Some m.type_list
    → AreTyped s (ms ++ m ∷ []) (ns ++ n ∷ [])
typed_more s ms ns m n typed is =
    map-append (type_at s) ns (n ∷ []) ∙ (λ t. typed t ++ is t ∷ []) ∙ sym (map-append wanted ms (m ∷ []))

-- the slots keep their types
pub typed_alike : (s s' : List (Option TableState)) (ms : List Move) (ns : List ℕ) → All (λ n. type_at s' n ≡ type_at s n) ns → AreTyped s ms ns
    → AreTyped s' ms ns
typed_alike s s' ms ns same typed = alike ns same ∙ typed
  where
    alike : (xs : List ℕ) → All (λ n. type_at s' n ≡ type_at s n) xs → map (type_at s') xs ≡ map (type_at s) xs
    alike [] same = refl
    alike (n ∷ xs) same =
        let here = All-head (λ k. type_at s' k ≡ type_at s k) n xs same in
        let rest = alike xs (All-tail (λ k. type_at s' k ≡ type_at s k) n xs same) in
        λ t. here t ∷ rest t

-- no table goes
typed_kept : (s s' : List (Option TableState)) (ms : List Move) (ns : List ℕ) → KeepsTypes s s' → AreTyped s ms ns → AreTyped s' ms ns
typed_kept s s' [] [] kept typed = refl
typed_kept s s' [] (n ∷ ns) kept typed = let bad = as_many s [] (n ∷ ns) typed in absurd (omega (arith, bad))
typed_kept s s' (m ∷ ms) [] kept typed = let bad = as_many s (m ∷ ms) [] typed in absurd (omega (arith, bad))
typed_kept s s' (m ∷ ms) (n ∷ ns) kept typed =
    let first = same_Some (type_at s n) (wanted m) (ap (λ xs. slice_get xs 0) typed) in
    let here = kept n m.type_list first in
    let rest = typed_kept s s' ms ns kept (ap (drop 1) typed) in
    λ t. here t ∷ rest t

-- ---- room

one_here : (n m : ℕ) → m ≡ n → arriving (n ∷ []) m ≡ 1
one_here n m here = let one = ap {B = ℕ} (λ b. if b then 1 else 0) (is_equal n m (sym here)) in omega (arith, one)

none_elsewhere : (n m : ℕ) → m ≢ n → arriving (n ∷ []) m ≡ 0
none_elsewhere n m other = let none = ap {B = ℕ} (λ b. if b then 1 else 0) (not_equal n m (λ h. other (sym h))) in omega (arith, none)

arriving_more : (ns : List ℕ) (n m : ℕ) → arriving (ns ++ n ∷ []) m ≡ arriving ns m + arriving (n ∷ []) m
arriving_more [] n m = omega arith
arriving_more (k ∷ ns) n m = let rest = arriving_more ns n m in omega (arith, rest)

-- nobody comes to a slot that is none of some
none_come : (ns targets : List ℕ) (m : ℕ) → All (λ n. IsTrue (list_any (nat_eq n) targets)) ns → list_any (nat_eq m) targets ≡ false
    → arriving ns m ≡ 0
none_come [] targets m among free = refl
none_come (n ∷ ns) targets m among free =
    let first = All-head (λ k. IsTrue (list_any (nat_eq k) targets)) n ns among in
    let rest = none_come ns targets m (All-tail (λ k. IsTrue (list_any (nat_eq k) targets)) n ns among) free in
    let here = none_elsewhere n m (λ same. true≢false (sym first ∙ sym (ap (λ k. list_any (nat_eq k) targets) same) ∙ free)) in
    omega (arith, here, rest)

room_none : (s : List (Option TableState)) → HasRoomFor s []
room_none s m = omega arith

-- targets keep their room
places_kept : (s s' : List (Option TableState)) (targets ns : List ℕ) → All (λ n. IsTrue (list_any (nat_eq n) targets)) ns
    → KeepsRoomIn s s' targets → HasRoomFor s ns → HasRoomFor s' ns
places_kept s s' targets ns among kept room m = by (list_any (nat_eq m) targets) refl
  where
    by : (b : Bool) → list_any (nat_eq m) targets ≡ b → arriving ns m ≤ (table_in s' m).room
    by true is = let had = room m in let has = kept m is in omega (arith, had, has)
    by false free = let none = none_come ns targets m among free in omega (arith, none)

-- room for one more
place_more : (s s' : List (Option TableState)) (ns : List ℕ) (n : ℕ) (slot : Option TableState) → HasRoomFor s ns → SetsSlot s s' n slot
    → (table_in s' n).room ≡ (table_in s n).room + 1 → HasRoomFor s' (ns ++ n ∷ [])
place_more s s' ns n slot room sets more =
    at_each n (λ m. arriving (ns ++ n ∷ []) m ≤ (table_in s' m).room)
    (omega (arith, arriving_more ns n n, one_here n n refl, room n, more))
    (λ m other.
    let same = ap (λ o. (unwrap_or o no_table).room) (sets.others m other) in
    omega (arith, arriving_more ns n m, none_elsewhere n m other, same, room m))

-- who comes first has room
pub first_place : (s : List (Option TableState)) (n : ℕ) (ns : List ℕ) → HasRoomFor s (n ∷ ns) → 0 < (table_in s n).room
first_place s n ns room =
    let one = one_here n n refl in
    let all = room n in
    omega (arith, one, all)

-- and leaves room for the others
pub rest_places : (s s' : List (Option TableState)) (targets : List ℕ) (n : ℕ) (ns : List ℕ) → All (λ k. IsTrue (list_any (nat_eq k) targets)) ns
    → AdmitsRow s s' targets n → HasRoomFor s (n ∷ ns) → HasRoomFor s' ns
rest_places s s' targets n ns among admits room m = by (list_any (nat_eq m) targets) refl
  where
    by : (b : Bool) → list_any (nat_eq m) targets ≡ b → arriving ns m ≤ (table_in s' m).room
    by true is = let all = room m in let left = admits.room m is in omega (arith, all, left)
    by false free = let none = none_come ns targets m among free in omega (arith, none)

-- ---- moves

pub ready_none : (s : List (Option TableState)) (targets : List ℕ) → AreMovesReady s targets [] []
ready_none s targets = record { typed = refl; named = All-nil (λ n. IsTrue (list_any (nat_eq n) targets)); room = room_none s }

-- a table became a target, and room was taken in it for one move more
pub ready_more : (s s1 s2 : List (Option TableState)) (targets all : List ℕ) (ms : List Move) (ns : List ℕ) (m : Move) (n : ℕ) (slot : Option TableState)
    → AreMovesReady s targets ms ns → ((k : ℕ) → IsTrue (list_any (nat_eq k) targets) → IsTrue (list_any (nat_eq k) all)) → KeepsTypes s s1
    → KeepsRoomIn s s1 targets → type_at s1 n ≡ Some m.type_list → IsTrue (list_any (nat_eq n) all) → SameTypes s1 s2 → SetsSlot s1 s2 n slot
    → (table_in s2 n).room ≡ (table_in s1 n).room + 1 → AreMovesReady s2 all (ms ++ m ∷ []) (ns ++ n ∷ [])
ready_more s s1 s2 targets all ms ns m n slot ready grown types room typed named same sets more = record {
  typed = typed_alike s1 s2 _ _ (λ k d within. same _) (typed_more s1 ms ns m n (typed_kept s s1 ms ns types ready.typed) typed);
  named = All-push (λ k. IsTrue (list_any (nat_eq k) all)) ns n (λ k d within. grown _ (ready.named k d within)) named;
  room = place_more s1 s2 ns n slot (places_kept s s1 targets ns ready.named room ready.room) sets more;
}

pub admits_none : (s : List (Option TableState)) (slots : List ℕ) (to : ℕ) → AdmitsRow s s slots to
admits_none s slots to = record { types = λ n among. refl; room = λ n among. omega arith }

-- a row moved, and then tables outside of these slots may have gone
pub admits_row : (s s1 s2 : List (Option TableState)) (from row to : ℕ) (slots : List ℕ) → IsSome (slot_of s from) → IsSome (slot_of s to)
    → Moves s s1 from row to → SameIn s1 s2 slots → AdmitsRow s s2 slots to
admits_row s s1 s2 from row to slots there_from there_to moves same = record {
  types = λ n among. ap (option_map (λ (t : TableState). t.ids)) (same n among) ∙ moves_types s s1 from row to moves there_from there_to n;
  room = λ n among.
      let now = ap (λ o. (unwrap_or o no_table).room) (same n among) in
      omega (arith, now, after n);
}
  where
    after : (n : ℕ) → (table_in s n).room ≤ (table_in s1 n).room + arriving (to ∷ []) n
    after =
        at_each to (λ n. (table_in s n).room ≤ (table_in s1 n).room + arriving (to ∷ []) n)
        (let left : (table_in s1 to).room ≡ (table_in s to).room - 1 = ap (λ o. (unwrap_or o no_table).room) moves.target in
        omega (arith, one_here to to refl, left))
        (at_each from (λ n. n ≢ to → (table_in s n).room ≤ (table_in s1 n).room + arriving (to ∷ []) n)
        (λ not_to.
        let more : (table_in s1 from).room ≡ (table_in s from).room + 1 = ap (λ o. (unwrap_or o no_table).room) moves.source in
        omega (arith, more))
        (λ n not_from not_to. let stays = ap (λ o. (unwrap_or o no_table).room) (moves.others n not_from not_to) in omega (arith, stays)))

-- nothing changes where the entity does not live
pub changed_dead : {A : Type 0} (w : Indexed A) (e : Entity) (f : A → A) → is_alive w e ≡ false → changed w e f ≡ w
changed_dead {A} w e f = by (record_of w e) refl
  where
    by : (o : Option A) → record_of w e ≡ o → is_some o ≡ false → change_kept w e f o ≡ w
    by None is dead = refl
    by (Some r) is dead = absurd (true≢false dead)
