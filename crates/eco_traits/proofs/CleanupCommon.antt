-- The names that most proofs here cite, passed on from one place. Declares nothing.
pub use Rattle.std.proofs.Common.{Bool, Equal, IfOk, IsFalse, IsTrue, List, None, Option, Ordering, Some, T, [], ap, arith, cond, false, filter, flat_map, fold}
pub use Rattle.std.proofs.Common.{get_or, if◌then◌else◌, inl, inr, is_some, length, map, nat_eq, nat_lt, not, option_map, refl, slice_get, slice_set}
pub use Rattle.std.proofs.Common.{subst, suc, sym, take, true, true≢false, unwrap_or, zero, ℕ, ◌&&◌, ◌++◌, ◌+◌, ◌<◌, ◌||◌, ◌↔◌}
pub use Rattle.std.proofs.Common.{◌∙◌, ◌∷◌, ◌≡◌, ◌≢◌, ◌⊎◌}
pub use Rattle.std.proofs.Math.Bool.{and-false, and-true, or-false, or_assoc}
pub use Rattle.std.proofs.lemmas.Bool.{and_right, false_from_ne_true}
pub use Rattle.std.proofs.lemmas.Bool.Decides.{Decides-eqb, nat_tests}
pub use Rattle.std.proofs.lemmas.List.{flat_map_more, map-append, map_more, take_all, take_more}
pub use Rattle.std.proofs.lemmas.List.Folds.{list_any-append}
pub use Rattle.std.proofs.lemmas.Option.{none-some, same_Some}
pub use Rattle.std.specs.Cmp.{IsTotalOrder, tied_itself}
pub use Rattle.std.specs.FinMap.Entries.{find, is_sorted, where_key}
pub use Rattle.std.specs.List.{All, Contains, list_any}
pub use Rattle.std.specs.Ordering.{is_le, is_lt, ordering_reverse, ordering_then}
pub use Rattle.eco_archetypes.specs.Archetypes.{IsAllFound, has_rows, is_found, is_found_by, row_at, type_at, type_matches}
pub use Rattle.eco_traits.specs.Firsts.{counted, former}
pub use Rattle.eco_traits.specs.Nodes.{AddsNodes, AreStarts, IsSearch, all_nodes, falls, is_falling, is_naming, is_one_of, is_root, leads, named_node}
pub use Rattle.eco_traits.specs.Nodes.{node_same, nodes_at, nodes_from, taken_among, taken_by, touches, touches_by}
pub use Rattle.eco_traits.specs.Objections.{AnswersDelete, JudgesDelete, first_objection, first_outside, first_protected, named_first, objection, objection_at}
pub use Rattle.eco_traits.specs.Objections.{objection_cmp, objection_of, protects}
pub use Rattle.eco_traits.specs.Plans.{Ascend, IsDeletePlan, TakesOut, TakesOutOfAll, change_in, changes_at, changes_of, spared}
pub use Rattle.eco_traits.specs.Policies.{chosen, is_head, names_on}
pub use Rattle.eco_traits.specs.declared.node.Node.{Node}
pub use Rattle.eco_traits.specs.declared.node.Node.TheVariants.{Falling, Named, Root}
pub use Rattle.eco_traits.specs.declared.objection.Objection.{Objection}
pub use Rattle.eco_ids.proofs.Ascending.{both, first, first_T, second, second_T}
pub use Rattle.eco_ids.proofs.Entries.{apart, sorted_is}
pub use Rattle.eco_ids.proofs.Exact.{keys, keys_find}
pub use Rattle.eco_ids.proofs.Facts.{any_is, id_eq_is, id_eq_itself, not_true, or_left, or_parts, or_right, same_tests, to_T}
pub use Rattle.eco_ids.proofs.Keeps.{entry_of, has_in, some_of}
pub use Rattle.eco_ids.proofs.Losses.{keeps_all}
pub use Rattle.eco_ids.proofs.Overlaps.{entity_eq_is, entity_eq_itself}
pub use Rattle.eco_ids.proofs.Results.{on_ok}
pub use Rattle.eco_ids.proofs.Sparing.{all_staying, with_staying}
pub use Rattle.eco_ids.specs.Cleanup.{Doomed, Forbids, HoldsOn, IsDoomed, Names, after_delete, names_any, policy}
pub use Rattle.eco_ids.specs.Indices.{Free, IndexState, Indexed, Living, Retired, change_kept, changed, is_alive, map_from, map_state, raised, record_of}
pub use Rattle.eco_ids.specs.Indices.{with_death}
pub use Rattle.eco_ids.specs.Least.{Least, next, root}
pub use Rattle.eco_ids.specs.Losses.{keeping, left_at, without}
pub use Rattle.eco_ids.specs.Order.{entity_cmp, entity_eq, has_item, id_cmp, id_eq, is_ascending, names_entity, with_item, without_item}
pub use Rattle.eco_ids.specs.World.{Record, WorldState, has, zeros}
pub use Rattle.eco_ids.specs.declared.entity.Entity.{Entity}
pub use Rattle.eco_ids.specs.declared.entity.TheConstants.{DELETE, ON_DELETE, ON_DELETE_TARGET, PANIC, REMOVE}
pub use Rattle.eco_ids.specs.declared.id.Id.{Id}
pub use Rattle.eco_ids.specs.declared.id.Id.TheVariants.{One, Two}
pub use Rattle.eco_ids.specs.declared.pattern.Part.TheVariants.{Any, Is}
pub use Rattle.eco_ids.specs.declared.pattern.Pattern.{Pattern}
pub use Rattle.eco_index.specs.TypeTests.{type_names}
pub use Rattle.eco_archetypes.specs.Holders.{entities_with}
pub use Rattle.eco_archetypes.specs.Shown.{IsShown, Stands}
pub use Rattle.eco_archetypes.specs.Records.{record_ids, with_toggled, with_type}
pub use Rattle.eco_archetypes.specs.Worlds.{world_of}
pub use Rattle.eco_archetypes.specs.declared.type_change.TypeChange.{TypeChange}
pub use Rattle.eco_tables.specs.Table.{RowsHaveIds, TableRow, TableState, entities_of}
pub use Rattle.eco_tables.specs.Tables.{no_row, no_table, slot_of, table_in}
