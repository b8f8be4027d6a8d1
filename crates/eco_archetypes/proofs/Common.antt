-- The names that most proofs here cite, passed on from one place. Declares nothing.
pub use Rattle.std.proofs.Common.{Bool, Equal, Err, Greater, IfNone, IfOk, IfSome, IsFalse, IsSome, IsTrue, Less, List, None, Ok, OnErr, OnOk, OnSome, Option}
pub use Rattle.std.proofs.Common.{Ordering, Result, Some, [], add-one, ap, arith, cond, drop, eqb-true, false, filter, get_or, if◌then◌else◌, inl, inr}
pub use Rattle.std.proofs.Common.{is_some, length, map, min, nat_eq, nat_lt, not, option_map, pos, refl, remove, replicate, slice_get, subst, suc, sym, take}
pub use Rattle.std.proofs.Common.{take_all, true, true≢false, unwrap_or, zero, ℕ, ℤ, ◌&&◌, ◌++◌, ◌+◌, ◌-◌, ◌<◌, ◌==◌, ◌||◌}
pub use Rattle.std.proofs.Common.{◌↔◌, ◌∙◌, ◌∷◌, ◌≡◌, ◌≢◌, ◌≤◌, ◌⊎◌}
pub use Rattle.std.proofs.lemmas.Bool.{cases_eq, cases_lt, false_from_ne_true}
pub use Rattle.std.proofs.lemmas.Bool.Decides.{Decides-eqb}
pub use Rattle.std.proofs.lemmas.Grind.{common_steps}
pub use Rattle.std.proofs.lemmas.List.{append_assoc, length-drop, length-take, take-append-drop, take_more}
pub use Rattle.std.proofs.lemmas.List.Folds.{list_any-append}
pub use Rattle.std.proofs.lemmas.Map.Views.{any-filter_same}
pub use Rattle.std.proofs.lemmas.Option.{get_or_from_slice_get, same_Some, slice_get-get_or, slice_get_within}
pub use Rattle.std.specs.FinMap.Entries.{by_order, find}
pub use Rattle.std.specs.HashMap.{HashMap, Updates, get}
pub use Rattle.std.specs.List.{All, IsDistinct, list_all, list_any}
pub use Rattle.std.specs.Map.{lookup}
pub use Rattle.std.specs.Option.{option_copied}
pub use Rattle.std.specs.Ordering.{int_eq, is_eq}
pub use Rattle.eco_archetypes.specs.Archetypes.{ArePassing, FindsRoom, FindsSome, IsAllFound, IsArchetypes, IsIdIndex, KeepsRoom, KeepsTypes}
pub use Rattle.eco_archetypes.specs.Archetypes.{RowlessBut, RowlessIn}
pub use Rattle.eco_archetypes.specs.Archetypes.{SameRows, SameSlots, SomeHasType, TakesType, has_one_of, has_rows, is_found_by, is_found_in}
pub use Rattle.eco_archetypes.specs.Archetypes.{is_rowless, is_type}
pub use Rattle.eco_archetypes.specs.Archetypes.{passes_at, standing_in, type_at, type_matches}
pub use Rattle.eco_archetypes.specs.Naming.{is_named_by_some, names_in}
pub use Rattle.eco_archetypes.specs.Sweeping.{DropsRowless, IsLess, Sweeps, has_table}
pub use Rattle.eco_archetypes.specs.Widths.{AreAgreed, AreWidths, FitsIn, IsWidth, KeepsWidths, MeetsNeeds, StillCover}
pub use Rattle.eco_index.proofs.Caching.{exact_types, then_told}
pub use Rattle.eco_index.specs.Caching.{AreExact, AreOnly, AreThose, AreTold, ChangesType, StayExact, choices_on, fulfils}
pub use Rattle.eco_index.specs.declared.cache.Cache.{Cache}
pub use Rattle.eco_entities.specs.Needs.{need}
pub use Rattle.eco_index.specs.Answers.{asks}
pub use Rattle.eco_ids.proofs.Ascending.{both, first, has_at, remove_is_without, second}
pub use Rattle.eco_ids.proofs.Exact.{id_eq_sym}
pub use Rattle.eco_ids.proofs.Facts.{any_is, equal_tie, id_eq_is, id_eq_itself, or_left, or_parts, or_right, same_tests}
pub use Rattle.eco_ids.proofs.IdOrder.{id_cmp_total, same_id}
pub use Rattle.eco_ids.proofs.Results.{err_says, on_err, on_ok}
pub use Rattle.eco_ids.proofs.SetLaws.{joins_with, leaves_without}
pub use Rattle.eco_ids.proofs.SameIds.{same_ids-Decides}
pub use Rattle.eco_ids.specs.Fingerprint.{fingerprint}
pub use Rattle.eco_ids.specs.Order.{has_item, id_cmp, id_eq, is_ascending, with_item, without_item}
pub use Rattle.eco_ids.specs.declared.id.Id.{Id}
pub use Rattle.eco_ids.specs.declared.pattern.Pattern.{Pattern}
pub use Rattle.eco_index.proofs.Graphs.{graph_cut, graph_linked, graph_made}
pub use Rattle.eco_index.proofs.Toggles.{toggled_other, twice}
pub use Rattle.eco_index.proofs.TypeMaps.{marks_back, marks_turned}
pub use Rattle.eco_index.proofs.TypeTests.{names_match}
pub use Rattle.eco_index.specs.Edges.{Cuts, IsGraph, IsTwofold, Links, SameEdges, edge, exchanged, toggled}
pub use Rattle.eco_index.specs.IdIndex.{Lists, ListsSame, Turns, any_matches, is_own, lists_of, matches_id}
pub use Rattle.eco_index.specs.TypeMap.{TypesDiffer, IsTypeMap, is_but, same_ids, type_marked}
pub use Rattle.eco_index.specs.TypeTests.{AreNeeded, group_at, naming, passes_with, passes_without, type_matches_one, type_names}
pub use Rattle.eco_query.specs.Queries.{QuerySlot, exactly, matches_type}
pub use Rattle.eco_tables.proofs.Slots.{none_is, room_some, row_some, row_within}
pub use Rattle.eco_tables.specs.Table.{FitsId, TableRow, TableState, empty_table, paired, width_in}
pub use Rattle.eco_tables.specs.Tables.{AreCopies, Moves, MovesAll, SetsRoom, SetsSlot, no_table, rowless, rowless_type, slot_of, table_in, turned, with_room}
pub use Rattle.eco_tables.specs.Tables.{without_room}
