-- The rows of a layout's tables after some of them came, went or moved.
use Rattle.eco_store.proofs.Common.{◌≡◌, ◌≢◌, ℕ, List, [], ◌∷◌, ◌++◌, length, slice_get, Option, Some, unwrap_or, refl, sym, ap, subst}
use Rattle.eco_store.proofs.Common.{◌∙◌, Entity, Id, TableState, retyped_row, entities_of, table_in, row_in, no_table, new_row, SetsSlot, Moves, with_row}
use Rattle.eco_store.proofs.Common.{without_row, Place, SameRows, rows_in, SetsRows, PutsRow, TakesRow, MovesRow}
use Rattle.eco_store.proofs.Pouring.{rows_same}

-- the rows of all tables, as one function
pub rows_alike : (s s' : List (Option TableState)) → SameRows s s' → rows_in s' ≡ rows_in s
rows_alike s s' same = λ t n. rows_same s s' same n t

pub sets_rows : (s s' : List (Option TableState)) (n : ℕ) (slot : Option TableState) → SetsSlot s s' n slot
    → SetsRows (rows_in s) (rows_in s') n (unwrap_or slot no_table).rows
sets_rows s s' n slot sets = record {
  changed = ap (λ o. (unwrap_or o no_table).rows) sets.changed;
  others = λ m other. ap (λ o. (unwrap_or o no_table).rows) (sets.others m other);
}

-- a row was taken out
pub row_takes : (s s' : List (Option TableState)) (p : Place) (moved : Option Entity) → SetsSlot s s' p.table (Some (without_row (table_in s p.table) p.row))
    → moved ≡ slice_get (entities_of (rows_in s' p.table)) p.row → TakesRow (rows_in s) (rows_in s') p moved
row_takes s s' p moved sets filled = record { rows = sets_rows s s' p.table _ sets; filled = filled }

-- a row was moved
pub row_moves : (s s' : List (Option TableState)) (from to : Place) (n : ℕ) (ids : List Id) (moved : Option Entity) → from.table ≢ n
    → (table_in s n).ids ≡ ids → to ≡ record { table = n; row = length (rows_in s n) } → Moves s s' from.table from.row n
    → moved ≡ slice_get (entities_of (rows_in s' from.table)) from.row → MovesRow (rows_in s) (rows_in s') from to ids moved
row_moves s s' from to n ids moved apart typed is moves filled =
    subst (λ p. MovesRow (rows_in s) (rows_in s') from p ids moved) (sym is) (record {
      apart = apart;
      end = refl;
      source = ap (λ o. (unwrap_or o no_table).rows) moves.source;
      target = ap (λ o. (unwrap_or o no_table).rows) moves.target ∙ (λ t. rows_in s n ++ retyped_row (typed t) (row_in s from.table from.row) ∷ []);
      others = λ m not_from not_to. ap (λ o. (unwrap_or o no_table).rows) (moves.others m not_from not_to);
      filled = filled;
    })

-- a new entity got a row
pub row_puts : (s s' : List (Option TableState)) (p : Place) (e : Entity) (ids : List Id) → (table_in s p.table).ids ≡ ids
    → p.row ≡ length (rows_in s p.table) → SetsSlot s s' p.table (Some (with_row (table_in s p.table) (new_row e)))
    → PutsRow (rows_in s) (rows_in s') p e ids
row_puts s s' p e ids typed end sets = record {
  end = end;
  rows = subst (λ is. SetsRows (rows_in s) (rows_in s') p.table (rows_in s p.table ++ retyped_row is (new_row e) ∷ [])) typed
      (sets_rows s s' p.table _ sets);
}
