-- What places and rows tell of an entity.
use Rattle.eco_archetypes.proofs.PlacesCommon.{Bool, Bor, IsSome, List, None, Option, Some, ap, false, if◌then◌else◌, is_some, length, option_and_then}
use Rattle.eco_archetypes.proofs.PlacesCommon.{option_map, refl, slice_get, sym, true, true≢false, ℕ, ◌<◌, ◌==◌, ◌∙◌, ◌≡◌, slice_get-get_or}
use Rattle.eco_archetypes.proofs.PlacesCommon.{slice_get-map, slice_get_within, option_copied, row_at, Registration, own_place, Place, living_at, record_at}
use Rattle.eco_archetypes.proofs.PlacesCommon.{Free, IndexState, Indexed, Living, Retired, is_alive, living, map_state, record_in, record_of, Record, Entity}
use Rattle.eco_archetypes.proofs.PlacesCommon.{held_of, seat_of, IsStore, held_at, read, record_for, seat_at, seat_in, seat_of_place, TableState, no_row, row_in}
use Rattle.eco_archetypes.proofs.PlacesCommon.{table_in}

pub no_some : {X : Type 0} (o : Option X) (x : X) → o ≡ None → o ≡ Some x → ⊥
no_some o x a b = let bad : ◌≡◌ {A = Option _} None (Some x) = sym a ∙ b in cc

pub one_some : {X : Type 0} (o : Option X) (x y : X) → o ≡ Some x → o ≡ Some y → x ≡ y
one_some o x y a b = let both : ◌≡◌ {A = Option _} (Some x) (Some y) = sym a ∙ b in cc

pub some_from_copied : {X : Type 0} (o : Option (Bor X)) (s : Option X) → option_copied o ≡ s → IsSome s → IsSome o
some_from_copied None s h there = absurd (let none : is_some s ≡ false = sym (ap is_some h) in true≢false (sym there ∙ none))
some_from_copied (Some b) s h there = refl

-- what holds of an index where nobody lives, and of one where somebody does, holds of each
pub each_state : {A : Type 0} (C : Option (IndexState A) → Type 0) → C None → C (Some Retired) → ((g : ℕ) → C (Some (Free g)))
    → ((g : ℕ) (r : A) → C (Some (Living g r))) → (o : Option (IndexState A)) → C o
each_state C none retired free living None = none
each_state C none retired free living (Some Retired) = retired
each_state C none retired free living (Some (Free g)) = free g
each_state C none retired free living (Some (Living g r)) = living g r

-- what is seen at an index
pub read_at : (w : Indexed Registration) (s : List (Option TableState)) (j : ℕ) (o : Option (IndexState Registration)) → slice_get w.indices j ≡ o
    → slice_get (read w s).indices j ≡ option_map (map_state (record_for (row_at s))) o
read_at w s j o is = slice_get-map (map_state (record_for (row_at s))) w.indices j ∙ ap (option_map (map_state (record_for (row_at s)))) is

pub record_of-read : (w : Indexed Registration) (s : List (Option TableState)) (e : Entity) →
    record_of (read w s) e ≡ option_map (record_for (row_at s)) (record_of w e)
record_of-read w s e =
    ap (λ o. record_in o e.generation) (read_at w s e.index _ refl)
    ∙ each_state
    (λ o. record_in (option_map (map_state (record_for (row_at s))) o) e.generation ≡ option_map (record_for (row_at s)) (record_in o e.generation))
    refl refl (λ g. refl) (λ g. with_test (e.generation == g)) (slice_get w.indices e.index)
  where
    with_test : (b : Bool) (r : Registration) → ◌≡◌ {A = Option Record} (if b then Some (record_for (row_at s) r) else None)
        (option_map (record_for (row_at s)) (if b then Some r else None))
    with_test true r = refl
    with_test false r = refl

pub alive_same : (w : Indexed Registration) (s : List (Option TableState)) (e : Entity) → is_alive (read w s) e ≡ is_alive w e
alive_same w s e = ap is_some (record_of-read w s e) ∙ by (record_of w e)
  where
    by : (o : Option Registration) → is_some (option_map (record_for (row_at s)) o) ≡ is_some o
    by None = refl
    by (Some r) = refl

-- what a seat says of its index
pub place_from_seat : (o : Option (IndexState Registration)) (e : Entity) (n k : ℕ) → seat_in o ≡ Some (seat_of e n k)
    → (r : Registration) × (o ≡ Some (Living e.generation r)) × (r.place ≡ Some (record { table = n; row = k }))
place_from_seat None e n k h = absurd (cc)
place_from_seat (Some Retired) e n k h = absurd (cc)
place_from_seat (Some (Free g)) e n k h = absurd (cc)
place_from_seat (Some (Living g r)) e n k h = by r.place refl h
  where
    by : (p : Option Place) → r.place ≡ p → option_map (seat_of_place g) p ≡ Some (seat_of e n k)
        → (x : Registration) × (◌≡◌ {A = Option (IndexState Registration)} (Some (Living g r)) (Some (Living e.generation x)))
        × (x.place ≡ Some (record { table = n; row = k }))
    by None is h = absurd (cc)
    by (Some p) is h =
        let same : seat_of_place g p ≡ seat_of e n k = cc in
        (r, (λ t. Some (Living (same t).generation r)), is ∙ (λ t. Some (record { table = (same t).slot; row = (same t).row })))

-- the record of an entity that has a place
pub placed_record : (w : Indexed Registration) (e : Entity) (p : Place) → own_place w e ≡ Some p →
    (r : Registration) × (record_of w e ≡ Some r) × (r.place ≡ Some p)
placed_record w e p = by (record_of w e)
  where
    by : (o : Option Registration) → option_and_then (λ r. r.place) o ≡ Some p → (r : Registration) × (o ≡ Some r) × (r.place ≡ Some p)
    by None h = absurd (cc)
    by (Some r) h = (r, refl, h)

pub seat_there : (w : Indexed Registration) (e : Entity) (p : Place) → own_place w e ≡ Some p → seat_at w e.index ≡ Some (seat_of e p.table p.row)
seat_there w e p own =
    let r = placed_record w e p own in
    ap seat_in (living_at w e r.0 r.1) ∙ ap (option_map (seat_of_place e.generation)) r.2

-- what a store shows of a living entity
pub read_record : (w : Indexed Registration) (s : List (Option TableState)) (e : Entity) (r : Registration) → record_of w e ≡ Some r
    → record_of (read w s) e ≡ Some (record_for (row_at s) r)
read_record w s e r h =
    record_at (read w s) e (record_for (row_at s) r)
    (read_at w s e.index _ (living_at w e r h))

-- an entity's row is there
pub row_within : (w : Indexed Registration) (s : List (Option TableState)) (e : Entity) (p : Place) → IsStore w s → own_place w e ≡ Some p
    → p.row < length (table_in s p.table).rows
row_within w s e p store own =
    let old = store.seated.there e.index (seat_of e p.table p.row) (seat_there w e p own) in slice_get_within ((table_in s p.table).rows) p.row old.0 old.1

-- what an entity holds, its row does
pub held_there : (w : Indexed Registration) (s : List (Option TableState)) (e : Entity) (p : Place) → IsStore w s → own_place w e ≡ Some p
    → (r : Registration) × (record_of w e ≡ Some r) × (held_at (row_at s) r.place ≡ (row_in s p.table p.row).held)
held_there w s e p store own =
    let r = placed_record w e p own in
    (r.0, r.1, ap (held_at (row_at s)) r.2 ∙ ap held_of (slice_get-get_or ((table_in s p.table).rows) p.row no_row (row_within w s e p store own)))
