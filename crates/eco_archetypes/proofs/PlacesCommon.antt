-- The names that most proofs here cite, passed on from one place. Declares nothing.
pub use Rattle.std.proofs.Common.{Bool, Bor, Equal, Err, Greater, IfNone, IfOk, IsSome, IsTrue, Less, List, None, Ok, Option, Ordering, Result, Some, []}
pub use Rattle.std.proofs.Common.{ap, arith, false, get_or, if◌then◌else◌, inl, inr, is_eq, is_lt, is_some, length, map, nat_eq, nat_lt}
pub use Rattle.std.proofs.Common.{option_and_then, option_map, refl, slice_get, subst, suc, suc-add, sym, true, true≢false, unwrap_or, zero, ℕ}
pub use Rattle.std.proofs.Common.{◌&&◌, ◌++◌, ◌<◌, ◌==◌, ◌||◌, ◌↔◌, ◌∙◌, ◌∷◌, ◌≡◌, ◌≢◌}
pub use Rattle.std.proofs.lemmas.Bool.Decides.{Decides-eqb, nat_tests}
pub use Rattle.std.proofs.lemmas.List.{get_or-map, length-map}
pub use Rattle.std.proofs.lemmas.List.Elements.{All-append, Contains-append_cases, Contains-append_left, Contains-append_right}
pub use Rattle.std.proofs.lemmas.List.Sorted.{Contains-permutation, IsPermutation-sym, sorted_far}
pub use Rattle.std.proofs.lemmas.Option.{get_or_from_slice_get, none-some, same_Some, slice_get-get_or, slice_get-map, slice_get_within}
pub use Rattle.std.specs.Cmp.{IsTotalOrder, tied_itself}
pub use Rattle.std.specs.FinMap.{IsAntisymmetric}
pub use Rattle.std.specs.List.{All, AllByRecursion, AllPairs, Contains, list_all, list_any}
pub use Rattle.std.specs.List.Sorted.{IsPermutation, IsSorted}
pub use Rattle.std.specs.Option.{option_copied}
pub use Rattle.std.specs.Ordering.{eq_by_cmp, ordering_reverse}
pub use Rattle.eco_archetypes.proofs.ArchetypeLemmas.{below_by_row, there_by_row}
pub use Rattle.eco_archetypes.specs.Archetypes.{FindsSome, is_found_by, row_at, standing_in}
pub use Rattle.eco_entities.specs.Registration.{Registration, entity_in, own_place, placed}
pub use Rattle.eco_entities.specs.declared.place.Place.{Place}
pub use Rattle.eco_ids.proofs.Ascending.{both, first, second}
pub use Rattle.eco_ids.proofs.Facts.{equal_tie, or_parts, or_right, same_tests}
pub use Rattle.eco_ids.proofs.States.{living_at, record_at}
pub use Rattle.eco_ids.specs.Indices.{Free, IndexState, Indexed, Living, Retired, is_alive, living, map_state, record_in, record_of}
pub use Rattle.eco_ids.specs.Order.{AscendingAreSets, entity_cmp, has_item, is_ascending}
pub use Rattle.eco_ids.specs.World.{Record}
pub use Rattle.eco_ids.specs.declared.entity.Entity.{Entity}
pub use Rattle.eco_ids.specs.declared.id.Id.{Id}
pub use Rattle.eco_archetypes.specs.Holders.{entities_whose, passes}
pub use Rattle.eco_archetypes.specs.Seats.{Seat, held_of, seat_of}
pub use Rattle.eco_archetypes.specs.Shown.{AreHoused, HasPlace, IsShown, IsStore, Stands, held_at, read, record_for, seat_at, seat_in, seat_of_place}
pub use Rattle.eco_tables.specs.Table.{HasIds, TableRow, TableState, entities_of}
pub use Rattle.eco_tables.specs.Tables.{AllHaveIds, no_row, no_table, row_in, slot_of, table_in}
