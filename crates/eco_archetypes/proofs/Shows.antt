-- The tables of a store show its entities.
use Rattle.eco_archetypes.proofs.PlacesCommon.{IsSome, List, None, Option, Some, ap, get_or, length, map, option_and_then, option_map, refl, slice_get, subst, suc}
use Rattle.eco_archetypes.proofs.PlacesCommon.{sym, unwrap_or, zero, ℕ, ◌<◌, ◌∙◌, ◌≡◌, slice_get-get_or, slice_get_within, All, row_at}
use Rattle.eco_archetypes.proofs.PlacesCommon.{Registration, own_place, Place, living_at, record_at, Indexed, record_of, Record, Entity, Id}
use Rattle.eco_archetypes.proofs.PlacesCommon.{Seat, held_of, seat_of, HasPlace, IsShown, IsStore, Stands, held_at, read, record_for, seat_at, seat_in}
use Rattle.eco_archetypes.proofs.PlacesCommon.{seat_of_place, HasIds, TableRow, TableState, AllHaveIds, no_row, no_table, slot_of, table_in}
use Rattle.eco_archetypes.proofs.PlacesCommon.{AreHoused, IndexState, Retired, Free, Living, below_by_row, entity_in}
use Rattle.eco_archetypes.proofs.Seated.{no_some, one_some, record_of-read, place_from_seat, placed_record, seat_there, read_record}

-- the row of an entity that has a place
pub stands_there : (w : Indexed Registration) (s : List (Option TableState)) (e : Entity) (p : Place) (t : TableState)
    → IsStore w s → own_place w e ≡ Some p → slot_of s p.table ≡ Some t → Stands (record_of (read w s) e) t p.row
stands_there w s e p t store own at =
    let r = placed_record w e p own in
    let seat = store.seated.there e.index (seat_of e p.table p.row) (seat_there w e p own) in
    let in_table : slice_get t.rows p.row ≡ Some seat.0 = sym (ap (λ o. slice_get (unwrap_or o no_table).rows p.row) at) ∙ seat.1 in
    let within : p.row < length t.rows = slice_get_within t.rows p.row seat.0 in_table in
    subst (λ o. Stands o t p.row) (sym (read_record w s e r.0 r.1)) (record {
      within = within;
      held = λ d.
          ap (held_at (row_at s)) r.2 ∙ ap held_of seat.1
          ∙ ap (λ (x : TableRow). x.held) (one_some (slice_get t.rows p.row) seat.0 (get_or t.rows p.row d) in_table
          (slice_get-get_or t.rows p.row d within));
    })

-- and the row is the entity's own
pub own_there : (w : Indexed Registration) (s : List (Option TableState)) (e : Entity) (p : Place) (t : TableState)
    → IsStore w s → own_place w e ≡ Some p → slot_of s p.table ≡ Some t → (d : TableRow) → (get_or t.rows p.row d).entity ≡ e
own_there w s e p t store own at d =
    let seat = store.seated.there e.index (seat_of e p.table p.row) (seat_there w e p own) in
    let in_table : slice_get t.rows p.row ≡ Some seat.0 = sym (ap (λ o. slice_get (unwrap_or o no_table).rows p.row) at) ∙ seat.1 in
    let within : p.row < length t.rows = slice_get_within t.rows p.row seat.0 in_table in
    sym (ap (λ (x : TableRow). x.entity)
    (one_some (slice_get t.rows p.row) seat.0 (get_or t.rows p.row d) in_table (slice_get-get_or t.rows p.row d within)))
    ∙ seat.2

pub stands_type : (o : Option Record) (t : TableState) (row : ℕ) → Stands o t row → All (HasIds t.ids) t.rows
    → ◌≡◌ {A = Option (List Id)} (Some t.ids) (option_map (λ k. map (λ p. p.0) k.held) o)
stands_type None t row h typed = absurd h
stands_type (Some k) t row h typed =
    sym (ap Some (ap (λ xs. map (λ p. p.0) xs) (h.held no_row) ∙ typed row no_row h.within))

pub slot_there : (s : List (Option TableState)) (n k : ℕ) (r : TableRow) → row_at s n k ≡ Some r → slot_of s n ≡ Some (table_in s n)
slot_there s n k r = by (slot_of s n)
  where
    nothing : (k : ℕ) → slice_get no_table.rows k ≡ None
    nothing zero = refl
    nothing (suc k) = refl

    by : (o : Option TableState) → slice_get (unwrap_or o no_table).rows k ≡ Some r → o ≡ Some (unwrap_or o no_table)
    by None h = absurd (no_some (slice_get no_table.rows k) r (nothing k) h)
    by (Some t) h = refl

pub from_read : (w : Indexed Registration) (s : List (Option TableState)) (e : Entity) (k : Record) → record_of (read w s) e ≡ Some k →
    (r : Registration) × (record_of w e ≡ Some r)
from_read w s e k h = by (record_of w e) (sym (record_of-read w s e) ∙ h)
  where
    by : (o : Option Registration) → option_map (record_for (row_at s)) o ≡ Some k → (r : Registration) × (o ≡ Some r)
    by None q = absurd (cc)
    by (Some r) q = (r, refl)

pub has_place : (o : Option Place) → IsSome o → (p : Place) × (o ≡ Some p)
has_place None h = absurd (cc)
has_place (Some p) h = (p, refl)

-- each who lives has a place in one of the tables
pub housed : (w : Indexed Registration) (s : List (Option TableState)) → IsStore w s → AreHoused (length s) w
housed w s store i e at = by (slice_get w.indices i) refl at
  where
    handle : ℕ → ℕ → Entity
    handle i g = record { index = i; generation = g }

    by : (o : Option (IndexState Registration)) → slice_get w.indices i ≡ o → entity_in i o ≡ Some e
        → (p : Place) × (own_place w e ≡ Some p) × (p.table < length s)
    by None is none = absurd (cc)
    by (Some Retired) is none = absurd (cc)
    by (Some (Free g)) is none = absurd (cc)
    by (Some (Living g r)) is same =
        let place = has_place r.place (subst HasPlace is (store.placed i)) in
        let p : Place = place.0 in
        let row = store.seated.there i (seat_of_place g p) (ap seat_in is ∙ ap (option_map (seat_of_place g)) place.1) in
        let own : own_place w (handle i g) ≡ Some p = ap (option_and_then (λ x. x.place)) (record_at w (handle i g) r is) ∙ place.1 in
        let within = slice_get_within (table_in s p.table).rows p.row row.0 row.1 in
        (p, ap (own_place w) (sym (one_some _ _ _ refl same)) ∙ own, below_by_row s p.table p.row within)

pub shows : (w : Indexed Registration) (s : List (Option TableState)) → IsStore w s → AllHaveIds s → IsShown (read w s) s
shows w s store own = record {
  rows = λ n k r h.
      let found = place_from_seat (slice_get w.indices r.entity.index) r.entity n k (store.seated.back n k r h) in
      let own : own_place w r.entity ≡ Some (record { table = n; row = k }) =
      ap (option_and_then (λ (x : Registration). x.place)) (record_at w r.entity found.0 found.1) ∙ found.2 in
      stands_there w s r.entity (record { table = n; row = k }) (table_in s n) store own (slot_there s n k r h);
  living = λ e x h.
      let reg = from_read w s e x h in
      let at = living_at w e reg.0 reg.1 in
      let place = has_place reg.0.place (subst HasPlace at (store.placed e.index)) in
      let seat : seat_at w e.index ≡ Some (seat_of e place.0.table place.0.row) = ap seat_in at ∙ ap (option_map (seat_of_place e.generation)) place.1 in
      let there = store.seated.there e.index (seat_of e place.0.table place.0.row) seat in
      (place.0.table, place.0.row, there.0, there.1, there.2);
  once = λ n k m j r x a b same.
      let one : seat_at w r.entity.index ≡ Some (seat_of r.entity n k) = store.seated.back n k r a in
      let two : seat_at w r.entity.index ≡ Some (seat_of x.entity m j) = ap (λ (e : Entity). seat_at w e.index) same ∙ store.seated.back m j x b in
      let both = one_some (seat_at w r.entity.index) _ _ one two in
      (ap (λ (q : Seat). q.slot) both, ap (λ (q : Seat). q.row) both);
  own = own;
}
