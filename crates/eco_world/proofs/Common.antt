-- The names that most proofs here cite, passed on from one place. Declares nothing.
pub use Rattle.std.proofs.Common.{Bool, Contains, Equal, Err, Greater, IfSome, IsFalse, IsSome, IsSortedBy, IsTrue, Less, List, MatchBool, MatchOption, None}
pub use Rattle.std.proofs.Common.{Ok, OnErr, OnOk, Option, Ordering, Result, Some, T, [], add-one, ap, append-nil, append_assoc, arith, cond, drop, eq-eqb}
pub use Rattle.std.proofs.Common.{false, filter, flat_map, fold, get_or, if◌then◌else◌, inl, inr, is_eq, is_lt, is_ok, is_some, le-leb, le-ltb}
pub use Rattle.std.proofs.Common.{le_of_suc-le-suc, length, length-append, lt-ltb, map, min, nat_eq, nat_le, nat_lt, not, option_and_then, option_map, refl}
pub use Rattle.std.proofs.Common.{rules, slice_get, slice_set, subst, suc, suc-add, sym, take, true, true≢false, unwrap_or, zero, zero-le, ℕ, ◌&&◌}
pub use Rattle.std.proofs.Common.{◌++◌, ◌+◌, ◌-◌, ◌<◌, ◌==◌, ◌||◌, ◌↔◌, ◌∙◌, ◌∷◌, ◌≡◌, ◌≢◌, ◌≤◌}
pub use Rattle.std.proofs.Common.{◌⊎◌}
pub use Rattle.std.proofs.cmp.SliceLoops.{Rest, begun, ended}
pub use Rattle.std.proofs.lemmas.Bool.{false_from_ne_true}
pub use Rattle.std.proofs.lemmas.Bool.Decides.{Decides-eqb, nat_tests}
pub use Rattle.std.proofs.lemmas.List.{drop_more, get_or-map, length-map, length-take-le, map-append, map_more, map_push, take_all, take_more}
pub use Rattle.std.proofs.lemmas.List.Elements.{All-contains, All-contains_itself, All-filter, All-push, Contains-get_or, filter_passes}
pub use Rattle.std.proofs.lemmas.List.Sorted.{Contains-permutation, IsPermutation-map, IsPermutation-sym, answers_always, ranks_by, sorted_far}
pub use Rattle.std.proofs.lemmas.Option.{get_or_from_slice_get, none-some, same_Some, slice_get-get_or, slice_get-map, slice_get_past, slice_get_within}
pub use Rattle.std.proofs.lemmas.Result.{err_from_is_err_and}
pub use Rattle.std.specs.Cmp.Lexicographic.{lists_total, slice_cmp}
pub use Rattle.std.specs.FinMap.Entries.{below_all, by_order, find, find-put, find-where_key, is_sorted, is_sorted-where_key, put, where_key}
pub use Rattle.std.specs.List.{All, AllByRecursion, IsDistinct, list_all, list_any, range_with_len}
pub use Rattle.std.specs.List.Sorted.{IsPermutation, IsSortedWithin}
pub use Rattle.std.specs.Option.{option_copied, option_or}
pub use Rattle.std.specs.Ordering.{eq_by_cmp, nat_cmp, ordering_reverse, ordering_then}
pub use Rattle.std.specs.Slice.Iter.{iter_rest}
pub use Rattle.eco_store.specs.Answers.{asked}
pub use Rattle.eco_ids.proofs.Ascending.{ascending_with, both, first, first_T, second, second_T, with_present}
pub use Rattle.eco_ids.proofs.Closures.{zero_sorted, zeros_have}
pub use Rattle.eco_ids.proofs.Exact.{id_eq_sym, keys_ascending, keys_find, keys_kept, keys_zeros, zero_find}
pub use Rattle.eco_ids.proofs.Facts.{any_is, id_eq_is, id_eq_itself, not_both, not_ok, not_true, or_left, or_parts, or_right, same_or_apart, same_tests}
pub use Rattle.eco_ids.proofs.IdOrder.{id_cmp_total, same_id}
pub use Rattle.eco_ids.proofs.Keeps.{Named, entry_of, fits_still, has_in, some_of}
pub use Rattle.eco_ids.proofs.Losses.{keeps_all, without_from_all, without_one}
pub use Rattle.eco_ids.proofs.Meaning.{least}
pub use Rattle.eco_ids.proofs.Mirrors.{mirror_is, mirror_parts, mirrored_of}
pub use Rattle.eco_ids.proofs.Overlaps.{entity_eq_is, entity_eq_itself}
pub use Rattle.eco_ids.proofs.Passing.{own_from_passed, passed_from_own, passes_some, some_passes}
pub use Rattle.eco_ids.proofs.Records.{changed_apart, changed_each, changed_is, changed_unchanged, living_state, write_change}
pub use Rattle.eco_ids.proofs.Results.{err_says, on_ok}
pub use Rattle.eco_ids.proofs.Sparing.{all_staying, with_staying}
pub use Rattle.eco_ids.proofs.States.{living_at, record_at}
pub use Rattle.eco_ids.specs.Births.{Admits, Creates, Makes, MakesAlive, MakesAliveWith, MakesComponent, bare, component_record, may_admit, may_make}
pub use Rattle.eco_ids.specs.Births.{unfit_name}
pub use Rattle.eco_ids.specs.Builtin.{is_builtin, is_builtins}
pub use Rattle.eco_ids.specs.Cleanup.{Deletes, Doomed, Ends, Forbids, ForbidsFirst, HoldsOn, IsDoomed, Names, after_delete, names_any}
pub use Rattle.eco_ids.specs.Data.{arity, arity_of, fits, is_zero_past, value_of}
pub use Rattle.eco_ids.specs.Delete.{DeletesOne, DeletesWith, may_delete, may_delete_with}
pub use Rattle.eco_ids.specs.Edition.{builtin_count, has_symmetric, largest_arity}
pub use Rattle.eco_ids.specs.Indices.{Free, IndexState, Indexed, Living, Retired, admitted, change_kept, is_free_at, living_from, lowest_free, map_from}
pub use Rattle.eco_ids.specs.Indices.{map_state, next_entity, raised, record_in, with_death, with_new}
pub use Rattle.eco_ids.specs.Lawful.{IsLawful, IsLawfulRecord, KeepsEdition, is_proper_arity}
pub use Rattle.eco_ids.specs.Layout.{IsLayout, ListedTable, is_distinct}
pub use Rattle.eco_ids.specs.Least.{Least, next, root}
pub use Rattle.eco_ids.specs.Losses.{keeping, left_at, nobody, without}
pub use Rattle.eco_ids.specs.Matching.{pattern_matches}
pub use Rattle.eco_ids.specs.Mirrors.{at_mirror, goes_too, mirror_of, mirrored_pair}
pub use Rattle.eco_ids.specs.Order.{entity_cmp, entity_eq, has_item, id_cmp, id_eq, is_ascending, names_entity, with_item, without_item}
pub use Rattle.eco_ids.specs.Outcome.{Answers, Meets, Refuses, first_refusal, is_out_of_memory}
pub use Rattle.eco_ids.specs.Run.{Command, Runs}
pub use Rattle.eco_ids.specs.Step.{Adds, Extends, IsClosure, Judges, Loses, RemovesAll, Renames, Sets, changed, grown, is_held, is_pair_of, is_replaced}
pub use Rattle.eco_ids.specs.Step.{is_reserved, is_used, may_rename, may_set, own_name, unchanged, unfit, unfit_actor, unfit_set, with_closure, with_id}
pub use Rattle.eco_ids.specs.Step.{with_mirror, with_name, with_value, with_zeros}
pub use Rattle.eco_ids.specs.Terms.{QueryTerm}
pub use Rattle.eco_ids.specs.World.{OnEntities, Record, WorldState, builtin_states, entities, has, held_by, is_alive, is_exclusive, is_symmetric, living}
pub use Rattle.eco_ids.specs.World.{names_living, record_of, with_entities, with_record, world_of_edition, zeros}
pub use Rattle.eco_ids.specs.declared.edition.Edition.{Edition}
pub use Rattle.eco_ids.specs.declared.edition.Edition.TheVariants.{First, Second}
pub use Rattle.eco_ids.specs.declared.entity.Entity.{Entity}
pub use Rattle.eco_ids.specs.declared.entity.TheConstants.{DELETE, PANIC}
pub use Rattle.eco_ids.specs.declared.id.Id.{Id}
pub use Rattle.eco_ids.specs.declared.id.Id.TheVariants.{One, Two}
pub use Rattle.eco_ids.specs.declared.refusal.Refusal.{Refusal}
pub use Rattle.eco_ids.specs.declared.refusal.Refusal.TheVariants.{BadName, DeadId, NameTaken, NoMoreIds, NoSuchQuery, NotAlive, NotData, OutOfMemory, Reserved}
pub use Rattle.eco_ids.specs.declared.refusal.Refusal.TheVariants.{TooWide}
pub use Rattle.eco_ids.specs.declared.value.TheConstants.{FIELD_COUNT}
pub use Rattle.eco_ids.specs.declared.value.Value.{Value}
pub use Rattle.eco_query.specs.Queries.{QuerySlot, exactly, holds, matches_type}
pub use Rattle.eco_stages.specs.Merging.{AreDone, all_commands, has_commands}
pub use Rattle.eco_stages.specs.Outcomes.{Outcomes, Written}
pub use Rattle.eco_stages.specs.Recorded.{commands_of}
pub use Rattle.eco_archetypes.specs.Holders.{entities_with, has_match}
pub use Rattle.eco_store.specs.Lent.{KeepData, KeepsData}
pub use Rattle.eco_archetypes.specs.Shown.{IsShown, Stands}
pub use Rattle.eco_store.specs.Store.{StoreState, newborn, record_name, record_with_written}
pub use Rattle.eco_archetypes.specs.Records.{record_ids, stepped, with_exchanged, with_toggled, with_type}
pub use Rattle.eco_archetypes.specs.Worlds.{world_of}
pub use Rattle.eco_archetypes.specs.declared.type_change.TypeChange.{TypeChange}
pub use Rattle.eco_tables.specs.Column.{retyped, value_in, with_held}
pub use Rattle.eco_tables.specs.Table.{HasIds, TableRow, TableState, entities_of, paired, width_in}
pub use Rattle.eco_tables.specs.Tables.{no_row, no_table, slot_of, table_in}
pub use Rattle.eco_traits.specs.Target.{ExtendsTo, FindsTarget, FindsType, IsOwnType, IsTypeAfter, TakesOwn, is_own_type, type_meant, type_of_entity}
pub use Rattle.eco_traits.specs.Target.{type_of_record}
pub use Rattle.eco_world.specs.Actor.{IsUnfit, MayNotSet, MaySet}
pub use Rattle.eco_world.specs.Builtins.{builtin_name, builtin_type, first_entities}
pub use Rattle.eco_world.specs.Cached.{ListsFor, OfQuery, RefusesQuery, all_slots_hold}
pub use Rattle.eco_world.specs.Layouts.{HasTable, IsByType, IsWhole, LendsValues, ListsBy, column_in, decided, lent, lent_at, lent_of, listed, listed_of}
pub use Rattle.eco_world.specs.Layouts.{shown_at, shown_of}
pub use Rattle.eco_world.specs.Losses.{IsAlone, mirror_holders, one_by_one, symmetric_target, takes, takes_id, with_holder}
pub use Rattle.eco_world.specs.Merging.{Merges, RunsAdmitted, may_merge}
pub use Rattle.eco_world.specs.Queries.{holders, is_passed, result_of}
pub use Rattle.eco_world.specs.Setting.{IsSettable, IsUnsettable}
pub use Rattle.eco_world.specs.Types.{type_of}
pub use Rattle.eco_world.specs.Worlds.{asked_by, world_with}
pub use Rattle.eco_world.specs.declared.table_rows.TableRows.{TableRows}
