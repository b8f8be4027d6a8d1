-- The names that most proofs cite, of std and of the definitions here, passed on from one place. Declares nothing.
pub use Rattle.std.proofs.Common.{◌≡◌, ℕ, zero, suc, ◌+◌, ◌-◌, ◌*◌, ◌/◌, ◌%◌, ◌^◌, ◌<◌, ◌≤◌, min, Bool, true, false, cond, not, ◌&&◌, ◌||◌, T, ◌≢◌, ◌⊎◌, ◌↔◌}
pub use Rattle.std.proofs.Common.{List, [], ◌∷◌, ◌++◌, map, length, get_or, take, drop, set, replicate, pos, is_some, IfSome, if◌then◌else◌, OnOk, IsOk, IsTrue}
pub use Rattle.std.proofs.Common.{IsFalse, nat_eq, nat_lt, nat_le, ◌==◌, slice_get, slice_index, slice_set, slice_range, Some, None, Ok, Err, string_bytes}
pub use Rattle.std.proofs.Common.{codes, decimal, MatchBool, fold, Contains, filter, Option, Result, MatchOption, option_map, MatchResult, IsSortedBy, insert}
pub use Rattle.std.proofs.Common.{remove, option_to_list, flat_map, option_and_then, option_copied, is_eq, is_lt, Ordering, Less, Equal, Greater, unwrap_or}
pub use Rattle.std.proofs.Common.{sym, refl, ap, ◌∙◌, subst, inl, inr, ⊎_elim, true≢false, append_assoc, append-nil, zero-le, le_of_suc-le-suc, suc-add}
pub use Rattle.std.proofs.Common.{add-one, arith, length-append, length-drop, length-set, set-set, rules, ltb-true, le-ltb, lt-ltb, eq-eqb, eqb-true, le-leb}
pub use Rattle.std.proofs.Common.{leb-true}
pub use Rattle.std.specs.Cmp.{tied_itself, IsTotalOrder}
pub use Rattle.std.specs.Cmp.Lexicographic.{pointwise, pointwise_decides}
pub use Rattle.std.specs.FinMap.{IsAntisymmetric, nat_cmp-IsAntisymmetric}
pub use Rattle.std.specs.FinMap.Entries.{find, is_sorted, where_key, below_all, is_sorted-where_key, by_order, find-put, put, find-where_key, is_sorted-put}
pub use Rattle.std.specs.Fmt.{HasWritten, IsPlainFormatter}
pub use Rattle.std.specs.Int.Bits.{or_zero_r}
pub use Rattle.std.specs.Io.KnownBytes.{Keeps, Appends, Consumes}
pub use Rattle.std.specs.List.{list_any, list_all, position_from, All, range_with_len, IsDistinct, AllByRecursion, AllZip}
pub use Rattle.std.specs.Option.{option_or, option_copied}
pub use Rattle.std.specs.Ordering.{is_le, ordering_reverse, ordering_then, nat_cmp}
pub use Rattle.std.specs.Slice.Iter.{iter_rest}
pub use Rattle.std.specs.Str.{bytes_eq}
pub use Rattle.std.proofs.Math.Bool.{or-false, or_assoc}
pub use Rattle.std.proofs.Math.Seq.{take-length}
pub use Rattle.std.proofs.lemmas.Bool.{cases_eq, or_left, cond-false, false≢true, cases_Bool, cond-true, ne_eqb, cases_lt, MatchBool-at_false}
pub use Rattle.std.proofs.lemmas.Bool.{MatchBool-at_true, and_right, ltb-false}
pub use Rattle.std.proofs.lemmas.Bool.Decides.{nat_tests, Decides-eqb}
pub use Rattle.std.proofs.lemmas.Grind.{common_steps}
pub use Rattle.std.proofs.lemmas.List.{take_more, map-append, length-take-le, take-append-drop, get_or-set_other, get_or-set_same, get_or-take, length-map}
pub use Rattle.std.proofs.lemmas.List.{length-replicate, take_all, drop_more, get_or-map, take_rest}
pub use Rattle.std.proofs.lemmas.List.Folds.{list_all-append}
pub use Rattle.std.proofs.lemmas.Map.Text.{btree_map_updates_text, is_eq-slice_cmp}
pub use Rattle.std.proofs.lemmas.Option.{same_Some, none-some, slice_get_within, slice_get_past, get_or_from_slice_get, option_and_then_some, slice_get-get_or}
pub use Rattle.std.proofs.lemmas.Option.{slice_get_read}
pub use Rattle.std.proofs.lemmas.Result.{err_from_is_err_and, IfOk-weaker}
pub use Rattle.std.proofs.lemmas.Slice.Eq.{bytes_eq-Decides}
pub use Rattle.eco_ids.specs.declared.edition.Edition.{Edition}
pub use Rattle.eco_ids.specs.declared.edition.Edition.TheVariants.{First, Second}
pub use Rattle.eco_ids.specs.declared.entity.Entity.{Entity}
pub use Rattle.eco_ids.specs.declared.entity.TheConstants.{ACYCLIC, WITH, EXCLUSIVE, DELETE, ON_DELETE, PANIC, CHILD_OF, SYMMETRIC}
pub use Rattle.eco_ids.specs.declared.id.Id.{Id}
pub use Rattle.eco_ids.specs.declared.id.Id.TheVariants.{Two, One}
pub use Rattle.eco_ids.specs.declared.pattern.Part.TheVariants.{Any, Is, Each}
pub use Rattle.eco_ids.specs.declared.pattern.Pattern.{Pattern}
pub use Rattle.eco_ids.specs.declared.refusal.Refusal.{Refusal}
pub use Rattle.eco_ids.specs.declared.refusal.Refusal.TheVariants.{Reserved, NotAlive, DeadId, NoMoreIds, BadName, Cycle, NameTaken, Taken, NotData, TooWide}
pub use Rattle.eco_ids.specs.declared.refusal.Refusal.TheVariants.{InUse, NotAPolicy, OutOfMemory, Syntax, TraitClash}
pub use Rattle.eco_ids.specs.declared.value.TheConstants.{FIELD_COUNT}
pub use Rattle.eco_ids.specs.declared.value.Value.{Value}
pub use Rattle.eco_ids.specs.Answer.{answer, is_least_match, same_filling}
pub use Rattle.eco_ids.specs.Births.{unfit_name, Makes, bare, Admits, component_record, Creates, MakesComponent, MakesAlive, MakesAliveWith, may_make}
pub use Rattle.eco_ids.specs.Builtin.{is_builtin, is_builtins, is_among_first}
pub use Rattle.eco_ids.specs.Cleanup.{after_delete, Deletes, Doomed, Ends, Forbids, HoldsOn, Names, IsDoomed, names_any}
pub use Rattle.eco_ids.specs.Data.{fits, arity, is_zero_past}
pub use Rattle.eco_ids.specs.Delete.{DeletesOne, DeletesWith}
pub use Rattle.eco_ids.specs.Edition.{builtin_count, late_traits, has_symmetric}
pub use Rattle.eco_ids.specs.Indices.{Living, IndexState, Indexed, Free, Retired, record_in, next_entity, living_from, with_new, is_free_at, map_state}
pub use Rattle.eco_ids.specs.Indices.{change_kept, is_free_in, with_record, admitted, lowest_free, raised, with_death}
pub use Rattle.eco_ids.specs.Lawful.{IsLawful, IsOrderly, is_proper_arity, is_proper_state, KeepsAcyclic, KeepsExclusive, KeepsEdition, KeepsMirrors}
pub use Rattle.eco_ids.specs.Lawful.{IsMirrored}
pub use Rattle.eco_ids.specs.Least.{root, next, Least, SomeOf}
pub use Rattle.eco_ids.specs.Losses.{nobody, without, keeping}
pub use Rattle.eco_ids.specs.Matching.{pattern_matches, IsLeastMatch, ShareAnEntity, part_overlaps, pattern_overlaps}
pub use Rattle.eco_ids.specs.Mirrors.{mirrored_pair, mirror_of, at_mirror, goes_too, is_with, is_clashing, has_clash}
pub use Rattle.eco_ids.specs.Names.{is_proper, may_follow, is_name, is_called, is_same_name, is_taken, is_text, lookup, may_begin, named_entity}
pub use Rattle.eco_ids.specs.Order.{id_cmp, has_item, id_eq, entity_cmp, entity_eq, is_ascending, with_item, without_item, Joins, SearchSays}
pub use Rattle.eco_ids.specs.Outcome.{Refuses, Answers, Meets, is_out_of_memory, first_refusal}
pub use Rattle.eco_ids.specs.Renaming.{own_name, RenamesWith, may_rename, unfit_rename}
pub use Rattle.eco_ids.specs.Step.{changed, Adds, IsClosure, Judges, Sets, with_closure, with_value, RemovesAll, Renames, grown, is_replaced, unfit_actor}
pub use Rattle.eco_ids.specs.Step.{Extends, Loses, unchanged, unfit, Clears, ClosesCycle, Removes, is_pair_of, unfit_set, with_name, IsFirstCycle, is_late}
pub use Rattle.eco_ids.specs.Step.{is_wrong_policy, is_used, may_add, with_zeros, with_id, with_mirror, is_reserved}
pub use Rattle.eco_ids.specs.Traits.{InClosure, Reaches, Brings}
pub use Rattle.eco_ids.specs.World.{WorldState, Record, has, record_of, is_alive, entities, names_living, zeros, with_entities, OnEntities, first_world, living}
pub use Rattle.eco_ids.specs.World.{world_of_edition, builtin_states, held_by, is_exclusive, is_acyclic, is_symmetric}
