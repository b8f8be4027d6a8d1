-- A table has no more rows than there are indices, since rows and places name each other.
use Rattle.eco_store.proofs.Common.{◌≡◌, ℕ, ◌<◌, ◌≤◌, [], Option, Some, None, List, length, get_or, slice_get, sym, ap, ◌∙◌, arith}
use Rattle.eco_store.proofs.Common.{none-some, same_Some, slice_get-get_or, slice_get_within, Entity, Indexed, IndexState, Place, Registration, own_place}
use Rattle.eco_store.proofs.Common.{TableState, TableRow, table_in, Seat, seat_of, IsStore, seat_at, seat_in}
use Rattle.indexmap.proofs.IndexTableLemmas.Probe.{pigeonhole}
use Rattle.eco_entities.specs.Rules.{IsRuled}
use Rattle.eco_archetypes.proofs.Seated.{row_within}

seat_known : (o : Option (IndexState Registration)) (s : Seat) → seat_in o ≡ Some s → (x : IndexState Registration) × (o ≡ Some x)
seat_known None s h = absurd (none-some s h)
seat_known (Some x) s h = (x, λ i. Some x)

module _ (w : Indexed Registration) (s : List (Option TableState)) (ruled : IsRuled w) (store : IsStore w s) (n : ℕ) where
  abbrev none : TableRow
  none = record { entity = record { index = 0; generation = 0 }; held = [] }

  -- the row at a place of the table
  abbrev row : ℕ → TableRow
  row i = get_or (table_in s n).rows i none

  seated : (i : ℕ) → i < length (table_in s n).rows → seat_at w (row i).entity.index ≡ Some (seat_of (row i).entity n i)
  seated i within = store.seated.back n i (row i) (slice_get-get_or (table_in s n).rows i none within)

  known : (i : ℕ) → i < length (table_in s n).rows → (row i).entity.index < length w.indices
  known i within =
      let there : (x : IndexState Registration) × (slice_get w.indices (row i).entity.index ≡ Some x) =
      seat_known (slice_get w.indices (row i).entity.index) (seat_of (row i).entity n i) (seated i within) in
      slice_get_within w.indices (row i).entity.index there.0 there.1

  apart : (i j : ℕ) → i < length (table_in s n).rows → j < length (table_in s n).rows → (row i).entity.index ≡ (row j).entity.index → i ≡ j
  apart i j in_i in_j same =
      ap (λ (t : Seat). t.row) (same_Some (seat_of (row i).entity n i) (seat_of (row j).entity n j)
      (sym (seated i in_i) ∙ (ap (seat_at w) same ∙ seated j in_j)))

  pub rows_bounded : length (table_in s n).rows ≤ 1048576
  rows_bounded =
      let few : length (table_in s n).rows ≤ length w.indices =
      pigeonhole (length (table_in s n).rows) (length w.indices) (λ i. (row i).entity.index) known apart in
      omega (arith, few, ruled.within, ruled.limited)

-- the row at which a living entity stands, and the one behind the last of a table, can be kept
pub own_fits : (w : Indexed Registration) (s : List (Option TableState)) (e : Entity) (p : Place) → IsRuled w → IsStore w s → own_place w e ≡ Some p
    → p.row < 4294967295
own_fits w s e p ruled store own = omega (arith, row_within w s e p store own, rows_bounded w s ruled store p.table)

pub end_fits : (w : Indexed Registration) (s : List (Option TableState)) (n row : ℕ) → IsRuled w → IsStore w s → row ≡ length (table_in s n).rows
    → row < 4294967295
end_fits w s n row ruled store end = omega (arith, end, rows_bounded w s ruled store n)
