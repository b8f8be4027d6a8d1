-- The names that most proofs here cite, passed on from one place. Declares nothing.
pub use Rattle.std.proofs.Common.{Bool, Equal, Greater, IsTrue, Less, List, MatchOption, None, Option, Some, [], ap, arith, cond, drop, eqb-true, false, get_or}
pub use Rattle.std.proofs.Common.{if◌then◌else◌, inl, inr, insert, is_ok, is_some, length, map, nat_lt, not, pos, refl, remove, replicate, set, slice_get}
pub use Rattle.std.proofs.Common.{subst, suc, sym, take, true, true≢false, unwrap_or, vec_len, zero, ℕ, ℤ, ◌&&◌, ◌++◌, ◌+◌, ◌-◌, ◌<◌}
pub use Rattle.std.proofs.Common.{◌||◌, ◌∙◌, ◌∷◌, ◌≡◌, ◌≢◌, ◌≤◌, ◌⊎◌}
pub use Rattle.std.proofs.lemmas.Bool.{cases_eq, cases_lt, cases_order, false_from_ne_true, not-true}
pub use Rattle.std.proofs.lemmas.List.{append-nil, drop-set-lt, drop_all, ext_get_or, get_or-append_right, get_or-map, get_or-replicate, get_or-set_other}
pub use Rattle.std.proofs.lemmas.List.{get_or-set_same, get_or_append_left, get_or_default, get_or_push, length-append, length-map, length-replicate}
pub use Rattle.std.proofs.lemmas.List.{length-set, map-append, map-set, replicate-append-replicate, set-append_left, set-append_right, take-map, take_all}
pub use Rattle.std.proofs.lemmas.List.{take_at, take_more, take_more_set}
pub use Rattle.std.proofs.lemmas.List.Elements.{All-append, All-cons, All-filter, All-head, All-map, All-nil, All-push, All-set, All-tail}
pub use Rattle.std.specs.FinMap.Entries.{by_order, find}
pub use Rattle.std.specs.List.{All, count_by, list_all, position_from, swap_remove}
pub use Rattle.std.specs.Ordering.{is_eq, is_lt, ordering_reverse}
pub use Rattle.std.specs.Vec.{vec_capacity}
pub use Rattle.eco_ids.proofs.Exact.{id_eq_sym}
pub use Rattle.eco_ids.proofs.Facts.{equal_tie, or_right}
pub use Rattle.eco_ids.proofs.IdOrder.{same_id}
pub use Rattle.eco_ids.proofs.Results.{err_says, on_err}
pub use Rattle.eco_ids.specs.Order.{has_item, id_cmp, id_eq, is_ascending, with_item, without_item}
pub use Rattle.eco_ids.specs.World.{padded, zeros}
pub use Rattle.eco_ids.specs.declared.entity.Entity.{Entity}
pub use Rattle.eco_ids.specs.declared.id.Id.{Id}
pub use Rattle.eco_ids.specs.declared.value.Value.{Value}
pub use Rattle.eco_tables.specs.Column.{ColumnState, Fits, column_with_value, contents, emptied, held_in, kind_of, lengthened, pushed, retyped, value_in}
pub use Rattle.eco_tables.specs.Column.{with_column, with_held, with_removed, without_column, written}
pub use Rattle.eco_tables.specs.Table.{AreKinds, ColumnsAgree, HasIds, HasShape, RowsHaveIds, TableRow, TableState, TypeAscends, entities_of, kinds_of, paired}
pub use Rattle.eco_tables.specs.Table.{retyped_row, rows_from, rows_of, table_of, width_among, width_in}
pub use Rattle.eco_tables.specs.Tables.{AreSlots, SetsRoom, SetsSlot, cleared, new_row, no_row, no_table, row_in, rowless, rowless_type, slot_of}
pub use Rattle.eco_tables.specs.Tables.{table_in, turned, with_room, with_row, with_rows, with_written, without_room, without_row, without_rows}
