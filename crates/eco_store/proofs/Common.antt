-- The names that most proofs here cite, passed on from one place. Declares nothing.
pub use Rattle.std.proofs.Common.{Bool, Err, IfNone, IfOk, IfSome, IsSome, IsTrue, List, MatchBool, MatchOption, None, Ok, OnErr, OnSome, Option, Result}
pub use Rattle.std.proofs.Common.{Some, [], add-one, ap, append_assoc, arith, cond, drop, false, get_or, if◌then◌else◌, inl, inr, is_eq, is_lt}
pub use Rattle.std.proofs.Common.{is_some, length, map, nat_eq, nat_le, nat_lt, not, option_and_then, option_map, refl, replicate, rules, set, slice_get}
pub use Rattle.std.proofs.Common.{slice_set, subst, suc, sym, take, true, true≢false, unwrap_or, zero, zero-le, ℕ, ◌%◌, ◌&&◌, ◌++◌}
pub use Rattle.std.proofs.Common.{◌+◌, ◌-◌, ◌<◌, ◌==◌, ◌||◌, ◌↔◌, ◌∙◌, ◌∷◌, ◌≡◌, ◌≢◌, ◌≤◌}
pub use Rattle.std.proofs.Math.Seq.{drop-cons, drop-length, take-append_seam}
pub use Rattle.std.proofs.lemmas.Bool.{cases_eq, cases_lt, le-ltb, ltb-false, ltb-true}
pub use Rattle.std.proofs.lemmas.Bool.Decides.{Decides-eqb, Decides-ltb, nat_tests}
pub use Rattle.std.proofs.lemmas.List.{drop-take, get_or-map, get_or-set_other, get_or-set_same, get_or-take, get_or_default, get_or_past, length-append}
pub use Rattle.std.proofs.lemmas.List.{length-drop, length-map, length-set, length-take-le, map-append, map-id, map-set, set_comm, take-append-drop}
pub use Rattle.std.proofs.lemmas.List.{take-take, take_all, take_more}
pub use Rattle.std.proofs.lemmas.List.Elements.{All-drop, All-head, All-nil, All-push, All-tail}
pub use Rattle.std.proofs.lemmas.List.Folds.{list_any-append}
pub use Rattle.std.proofs.lemmas.List.Sums.{fold-append}
pub use Rattle.std.proofs.lemmas.Map.Views.{Contains-from_any}
pub use Rattle.std.proofs.lemmas.Option.{get_or_from_slice_get, none-some, same_Some, slice_get-get_or, slice_get-map, slice_get_past, slice_get_within}
pub use Rattle.std.proofs.lemmas.Result.{IfOk-weaker, err_from_is_err_and}
pub use Rattle.std.specs.FinMap.Entries.{find}
pub use Rattle.std.specs.List.{All, AllPairs, Contains, IsDistinct, list_all, list_any, swap_remove}
pub use Rattle.std.specs.Option.{option_copied, option_or}
pub use Rattle.std.specs.Ordering.{ordering_reverse}
pub use Rattle.eco_archetypes.proofs.ArchetypeLemmas.{moves_all_types, moves_types, rows_from_slots, sets_types, then_rows, there_as_typed, there_by_room}
pub use Rattle.eco_archetypes.proofs.ArchetypeLemmas.{there_by_row, there_by_type, type_there, typed_table}
pub use Rattle.eco_archetypes.proofs.Widths.{kept_widths, lowered, zero_later}
pub use Rattle.eco_archetypes.specs.Archetypes.{KeepsRoom, KeepsTypes, MayTakeType, RowlessIn, SameRows, SameSlots, SameTypes, TakesType, is_found_by}
pub use Rattle.eco_archetypes.specs.Archetypes.{is_rowless, row_at, type_at}
pub use Rattle.eco_archetypes.specs.Widths.{FitsIn, MeetsNeeds, StillCover}
pub use Rattle.eco_entities.specs.Needs.{NeedsNeverGrow, fields_for, need, need_in, need_of}
pub use Rattle.eco_entities.specs.Registration.{CreatesRegistration, Registration, given_name, newcomer, own_place, placed, renamed}
pub use Rattle.eco_entities.specs.Runs.{Admit, Call, Create, Kill, LeadsTo, MakeAlive, Rename, SetPlace}
pub use Rattle.eco_entities.specs.declared.place.Place.{Place}
pub use Rattle.eco_ids.proofs.Ascending.{first, less, second}
pub use Rattle.eco_ids.proofs.Facts.{id_eq_itself, not_both, or_right}
pub use Rattle.eco_ids.proofs.Lists.{before, get_or-swap_remove, length-swap_remove, map-replicate, not_equal, set_own, slice_get-push_last}
pub use Rattle.eco_ids.proofs.Lists.{slice_get-push_other, slice_get-set_other, slice_get-set_same, slice_get-set_there}
pub use Rattle.eco_ids.proofs.Overlaps.{entity_eq_is, entity_eq_itself}
pub use Rattle.eco_ids.proofs.Results.{err_says, on_err}
pub use Rattle.eco_ids.proofs.SameIds.{entity_eq-Decides, same_ids-Decides}
pub use Rattle.eco_ids.proofs.States.{living_at, record_at, record_here, same_parts}
pub use Rattle.eco_ids.specs.Births.{Admits, Makes, may_admit, may_make, unfit_name}
pub use Rattle.eco_ids.specs.Indices.{Free, IndexState, Indexed, Living, Retired, admitted, change_kept, changed, is_alive, is_free_at, is_free_in}
pub use Rattle.eco_ids.specs.Indices.{living_from, lowest_free, map_from, map_state, next_entity, raised, record_in, record_of, with_death, with_new}
pub use Rattle.eco_ids.specs.Indices.{with_record}
pub use Rattle.eco_ids.specs.Matching.{pattern_matches}
pub use Rattle.eco_ids.specs.Order.{entity_cmp, entity_eq, has_item, id_cmp, id_eq, is_ascending}
pub use Rattle.eco_ids.specs.Outcome.{Answers, Meets, Refuses, first_refusal, is_out_of_memory}
pub use Rattle.eco_ids.specs.World.{Record, zeros}
pub use Rattle.eco_ids.specs.declared.entity.Entity.{Entity}
pub use Rattle.eco_ids.specs.declared.id.Id.{Id}
pub use Rattle.eco_ids.specs.declared.refusal.Refusal.{Refusal}
pub use Rattle.eco_ids.specs.declared.refusal.Refusal.TheVariants.{BadName, NameTaken, NoMoreIds, NotAlive, OutOfMemory, Reserved}
pub use Rattle.eco_ids.specs.declared.value.Value.{Value}
pub use Rattle.eco_index.specs.Edges.{exchanged, toggled}
pub use Rattle.eco_index.specs.TypeMap.{same_ids}
pub use Rattle.eco_archetypes.specs.Deaths.{after_deaths, death_at, with_deaths}
pub use Rattle.eco_archetypes.specs.Records.{Tries, has_in_store, held_in_store, record_ids, stepped, type_in_store, with_toggled, with_type}
pub use Rattle.eco_archetypes.specs.Retyping.{IsOneWay, IsTypeBy, after_change, after_changes, changed_record}
pub use Rattle.eco_archetypes.specs.Seats.{IsSeated, Seat, held_of, seat_of, seated_entity}
pub use Rattle.eco_archetypes.specs.Shown.{HasPlace, IsShown, IsStore, Stands, held_at, read, record_for, seat_at, seat_in, seat_of_place}
pub use Rattle.eco_archetypes.specs.declared.type_change.TypeChange.{TypeChange}
pub use Rattle.eco_store.specs.Layout.{Carries, IsLaid, IsLaidBeside, IsLaidBut, IsSettled, LosesRows, MovesRow, Plans, PutsRow, RetypesRow, SetsRows}
pub use Rattle.eco_store.specs.Layout.{TakesRow, TurnsTable, rows_in, seen}
pub use Rattle.eco_store.specs.Moving.{AdmitsRow, AreMovesReady, AreTyped, HasRoomFor, LeavesRoom, after_move, after_moves, arriving}
pub use Rattle.eco_store.specs.Placing.{fixed}
pub use Rattle.eco_store.specs.Staying.{KeepsRoomIn, SameIn, StayingState, all_staying, only_idle, with_gathered, with_target}
pub use Rattle.eco_store.specs.Store.{CreatesRecord, StoreState, arity_in_store, fits_in_store, newborn, own_arity_in_store, record_name}
pub use Rattle.eco_store.specs.Transfers.{AreNamed, AreTransfersReady, HasRoom, IsNamed, IsPlan, Pours, Thins, change_of, due, place_after, placed_after}
pub use Rattle.eco_store.specs.Transfers.{with_places}
pub use Rattle.eco_store.specs.declared.layout.Layout.{Layout}
pub use Rattle.eco_store.specs.declared.moving.Move.{Move}
pub use Rattle.eco_store.specs.declared.transfer.Transfer.{Transfer}
pub use Rattle.eco_tables.specs.Column.{retyped, value_in, with_held}
pub use Rattle.eco_tables.specs.Table.{TableRow, TableState, entities_of, retyped_row, width_in}
pub use Rattle.eco_tables.specs.Tables.{AllHaveIds, Moves, MovesAll, SetsSlot, cleared, new_row, no_row, no_table, row_in, rowless, rowless_type, slot_of}
pub use Rattle.eco_tables.specs.Tables.{table_in, with_row, without_row}
