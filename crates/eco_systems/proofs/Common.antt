-- The names that most proofs here cite, passed on from one place. Declares nothing.
pub use Rattle.std.proofs.Common.{Bool, Err, IsFalse, IsTrue, Less, List, MatchBool, MatchOption, None, Ok, Option, Result, Some, T, [], ap, append_assoc}
pub use Rattle.std.proofs.Common.{arith, cond, eqb-true, false, filter, inl, inr, is_lt, is_some, length, map, not, option_map, refl, replicate, rules}
pub use Rattle.std.proofs.Common.{slice_get, subst, suc, sym, true, true≢false, unwrap_or, zero, ℕ, ◌&&◌, ◌++◌, ◌+◌, ◌<◌, ◌==◌}
pub use Rattle.std.proofs.Common.{◌||◌, ◌↔◌, ◌∙◌, ◌∷◌, ◌≡◌, ◌≤◌, ◌⊎◌}
pub use Rattle.std.proofs.lemmas.Bool.{and_right, cases_eq}
pub use Rattle.std.proofs.lemmas.Bool.Decides.{Decides-or}
pub use Rattle.std.proofs.lemmas.List.{append-nil, append_cancel_left, length-append, map-append, map-id}
pub use Rattle.std.proofs.lemmas.List.Folds.{list_all-append, list_any-append}
pub use Rattle.std.proofs.lemmas.Option.{none-some, same_Some, slice_get_within}
pub use Rattle.std.specs.FinMap.Entries.{find, find-put, is_sorted}
pub use Rattle.std.specs.List.{AllByRecursion, list_all, list_any}
pub use Rattle.std.specs.Option.{option_and_then, option_or}
pub use Rattle.std.specs.Prelude.{flat_map, option_to_list}
pub use Rattle.eco_ids.proofs.Ascending.{ascending_filter, both, first, second}
pub use Rattle.eco_ids.proofs.Each.{all_append, some_exact, some_left, some_right}
pub use Rattle.eco_ids.proofs.Facts.{any_is, id_eq_is, id_eq_itself, off, or_left, or_parts, or_right, same_or_apart}
pub use Rattle.eco_ids.proofs.IdOrder.{entity_cmp_total, id_cmp_total, same_entity, same_id}
pub use Rattle.eco_ids.proofs.Keeps.{has_in, same_arity, some_of}
pub use Rattle.eco_ids.proofs.Overlaps.{entity_eq_is, entity_eq_itself, overlaps_exactly}
pub use Rattle.eco_ids.proofs.Records.{IsWrite, open_living, record_apart, write_known}
pub use Rattle.eco_ids.proofs.Runs.{applies_lawful, applies_settled, runs_lawful}
pub use Rattle.eco_ids.specs.Births.{MakesAlive, MakesAliveWith, bare, may_admit}
pub use Rattle.eco_ids.specs.Builtin.{is_builtin, is_builtins}
pub use Rattle.eco_ids.specs.Cleanup.{Deletes, Ends, names_any}
pub use Rattle.eco_ids.specs.Data.{arity, arity_of, value_of}
pub use Rattle.eco_ids.specs.Edition.{has_symmetric, late_traits}
pub use Rattle.eco_ids.specs.Indices.{Free, IndexState, Indexed, Living, Retired, admitted, is_free_at, is_free_in, living_from, record_in}
pub use Rattle.eco_ids.specs.Lawful.{IsLawful}
pub use Rattle.eco_ids.specs.Least.{SomeOf, next, root}
pub use Rattle.eco_ids.specs.Matching.{part_matches, pattern_matches, pattern_overlaps}
pub use Rattle.eco_ids.specs.Order.{entity_cmp, entity_eq, has_item, id_cmp, id_eq, is_ascending}
pub use Rattle.eco_ids.specs.Outcome.{Answers, Meets, Refuses, is_out_of_memory}
pub use Rattle.eco_ids.specs.Renaming.{RenamesWith}
pub use Rattle.eco_ids.specs.Run.{Add, Applies, Clear, Command, Create, Delete, DeleteWith, Remove, RemoveAll, Rename, Runs, Set, may_want}
pub use Rattle.eco_ids.specs.Traits.{Brings, InClosure, Reaches}
pub use Rattle.eco_ids.specs.World.{OnEntities, Record, WorldState, builtin_states, entities, has, held_by, is_alive, is_exclusive, is_symmetric, is_widened}
pub use Rattle.eco_ids.specs.World.{living, record_of, with_entities, with_record, zeros}
pub use Rattle.eco_ids.specs.declared.edition.Edition.TheVariants.{First, Second}
pub use Rattle.eco_ids.specs.declared.entity.Entity.{Entity}
pub use Rattle.eco_ids.specs.declared.entity.TheConstants.{EXCLUSIVE, SYMMETRIC, WITH}
pub use Rattle.eco_ids.specs.declared.id.Id.{Id}
pub use Rattle.eco_ids.specs.declared.pattern.Part.TheVariants.{Any, Each, Is}
pub use Rattle.eco_ids.specs.declared.pattern.Pattern.{Pattern}
pub use Rattle.eco_ids.specs.declared.pattern.Pattern.TheVariants.{One, Two}
pub use Rattle.eco_ids.specs.declared.refusal.Refusal.{Refusal}
pub use Rattle.eco_ids.specs.declared.refusal.Refusal.TheVariants.{Cycle, InUse, NoMoreIds, NotAPolicy, OutOfMemory, Reserved, Taken, TraitClash}
pub use Rattle.eco_ids.specs.declared.value.Value.{Value}
pub use Rattle.eco_query.specs.Queries.{HasPositive, QuerySlot, exactly, is_positive, patterns_of, reads}
pub use Rattle.eco_systems.specs.Batches.{AreBatches, AreCut, AreTogether, Conflict, Disturbs, joined}
pub use Rattle.eco_systems.specs.Frames.{AreAscending, AreFresh, AscendingRuns, BatchDraws, BatchRuns, BatchRunsSolo, FrameIsStopped, FrameOutcomes, Goes}
pub use Rattle.eco_systems.specs.Frames.{InTurn, IsFrame, OneByOne, PassesLimit, all_drawn, fresh_entity, fresh_from, with_admitted}
pub use Rattle.eco_systems.specs.Joining.{batched}
pub use Rattle.eco_systems.specs.Laws.{DrawsDecide, FramesAreSolo, FramesExist, FramesKeepLawful, JoiningMakesBatches, OneWorkerDecides}
pub use Rattle.eco_systems.specs.Laws.{RefusedCommandsChangeNothing, StoppedAreSolo, StoppedAtOnceChangesNothing, StoppedHaveMore, TakesOne, TakesSome}
pub use Rattle.eco_systems.specs.Laws.{was_ample}
pub use Rattle.eco_systems.specs.Phases.{in_order, order_of, phases, positions_from, runs_in}
pub use Rattle.eco_systems.specs.Recording.{BatchRecords, PiecesRecord, Records, RowsRecord, pieces_of}
pub use Rattle.eco_systems.specs.Rows.{ValuedRow, entry_value, entry_values, shows_values, valued, valued_rows}
pub use Rattle.eco_systems.specs.Systems.{IsDeclared, IsLawfulSystem, SystemModel, matches_one, system_reads}
pub use Rattle.eco_systems.specs.Writes.{BringsPattern, InClosedPatterns, IsClosedWrite, IsTraitWriter, is_builtin_trait, widened, writes_trait}
