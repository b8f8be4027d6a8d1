-- The names that most proofs here cite, passed on from one place. Declares nothing.
pub use Rattle.std.proofs.Common.{Bool, Err, Global, IfErr, IfOk, IsTrue, List, MatchBool, None, Ok, Option, Result, Some, Vec, [], ap, append_assoc, arith}
pub use Rattle.std.proofs.Common.{cond, drop, eq-eqb, eqb, false, flat_map, get_or, if◌then◌else◌, inl, inr, is_eq, is_lt, is_ok, le_of_suc-le-suc}
pub use Rattle.std.proofs.Common.{length, length-append, ltb, map, min, not, option_copied, option_map, option_to_list, refl, rules, slice_get, subst, suc, sym}
pub use Rattle.std.proofs.Common.{take, true, true≢false, unwrap_or, vec_capacity, vec_len, zero, ℕ, ◌&&◌, ◌++◌, ◌+◌, ◌-◌, ◌<◌}
pub use Rattle.std.proofs.Common.{◌==◌, ◌||◌, ◌∙◌, ◌∷◌, ◌≡◌, ◌≤◌}
pub use Rattle.std.proofs.lemmas.List.{append-nil, drop-drop, get_or-drop, get_or-take, length-drop, length-map, length-take-le, map-append, map_push}
pub use Rattle.std.proofs.lemmas.List.{nil_from_length, take-append-drop, take_all, take_min, take_more}
pub use Rattle.std.proofs.lemmas.Option.{get_or_from_slice_get, slice_get-get_or, slice_get-map, slice_get_cases, slice_get_past, slice_get_read}
pub use Rattle.std.proofs.lemmas.Option.{slice_get_within}
pub use Rattle.std.proofs.lemmas.Result.{IfErr-weaker, IfOk-weaker, err_from_is_err_and}
pub use Rattle.std.specs.List.{All, AllByRecursion, AllZip, concat, list_all, list_any, range_with_len}
pub use Rattle.eco_frame.specs.Outlines.{ArePlacedBatches, no_system, system_at, system_of, systems_of}
pub use Rattle.eco_frame.specs.declared.declared_system.Declared.{Declared}
pub use Rattle.eco_bodies.specs.Taking.{AllTook, commands_in_turn, taken_of}
pub use Rattle.eco_bodies.specs.declared.systems.System.{System}
pub use Rattle.eco_frame.specs.Models.{ArePlaced, Declares, model_at, model_of}
pub use Rattle.eco_frame.specs.Pieces.{HasFewPieces, IsRecorded, Settled, body_with_rows, part_at, piece_commands, piece_taken, pieces_at, pieces_in, seen_part}
pub use Rattle.eco_frame.specs.Pieces.{seen_piece}
pub use Rattle.eco_frame.specs.Progresses.{CountsReport, HasRun, HaveRun, RunsBy, done_of}
pub use Rattle.eco_frame.specs.Reports.{FrameDone, Frames, IsFrameBy, drawn_in}
pub use Rattle.eco_frame.specs.Stops.{IsNextOut, IsWhy}
pub use Rattle.eco_frame.specs.declared.progress.Progress.{Progress}
pub use Rattle.eco_frame.specs.declared.stop.FrameStop.{FrameStop}
pub use Rattle.eco_ids.specs.Run.{Command, Runs}
pub use Rattle.eco_ids.specs.World.{WorldState, entities}
pub use Rattle.eco_ids.specs.declared.entity.Entity.{Entity}
pub use Rattle.eco_ids.specs.declared.pattern.Pattern.{Pattern}
pub use Rattle.eco_ids.specs.declared.refusal.Refusal.TheVariants.{NoMoreIds, OutOfMemory}
pub use Rattle.eco_stages.specs.Merging.{all_commands}
pub use Rattle.eco_stages.specs.Taking.{by_index, fresh}
pub use Rattle.eco_systems.specs.Batches.{AreBatches, AreCut, AreTogether, Conflict, IsParted, joined}
pub use Rattle.eco_systems.specs.Frames.{AreAscending, AreFresh, AscendingRuns, BatchDraws, BatchRuns, BatchRunsSolo, FrameOutcomes, InTurn, all_drawn}
pub use Rattle.eco_systems.specs.Frames.{fresh_entity, fresh_from, with_admitted}
pub use Rattle.eco_systems.specs.Laws.{FramesAreSolo, OrderHasSystems, StoppedAreSolo}
pub use Rattle.eco_systems.specs.Phases.{in_order, order_of, phase_rank, phases, positions_from}
pub use Rattle.eco_systems.specs.Recording.{BatchRecords, PiecesRecord, RowsRecord, cut, pieces_of}
pub use Rattle.eco_systems.specs.Rows.{ValuedRow, entry_value, entry_values, valued_rows}
pub use Rattle.eco_systems.specs.Systems.{IsLawfulSystem, SystemModel, system_reads}
pub use Rattle.eco_workers.specs.Alone.{IsInTurn, IsOutInTurn}
pub use Rattle.eco_workers.specs.Batches.{AreStages, IsBatch, IsOut}
pub use Rattle.eco_world.specs.Merging.{Merges, RunsAdmitted}
