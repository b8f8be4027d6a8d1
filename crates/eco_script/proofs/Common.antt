-- The names that most proofs here cite, passed on from one place. Declares nothing.
pub use Rattle.std.proofs.Common.{Bool, Err, IfErr, IfOk, IsFalse, IsOkAnd, IsSomeAnd, IsTrue, List, MatchBool, MatchOption, MatchResult, None, Ok, Option}
pub use Rattle.std.proofs.Common.{Result, Some, [], ap, append_assoc, arith, drop, false, flat_map, get_or, inl, inr, is_some, length, map, nat_le, not, refl}
pub use Rattle.std.proofs.Common.{rules, slice_get, string_bytes, subst, sym, take, true, true≢false, ℕ, ◌&&◌, ◌++◌, ◌+◌, ◌<◌, ◌||◌}
pub use Rattle.std.proofs.Common.{◌∙◌, ◌∷◌, ◌≡◌, ◌≢◌, ◌≤◌}
pub use Rattle.std.proofs.KnownBytes.{Appends-nil, Appends-trans, Keeps-refl}
pub use Rattle.std.proofs.lemmas.Bool.{or_parts}
pub use Rattle.std.proofs.lemmas.List.{append-nil, flat_map_more, length-append, map-append, take-append-drop, take_all, take_more}
pub use Rattle.std.proofs.lemmas.Result.{err_from_is_err_and}
pub use Rattle.std.specs.List.{AllByRecursion, list_all, list_any}
pub use Rattle.eco_bodies.specs.declared.action.Action.{Action}
pub use Rattle.eco_script.specs.Lines.{line_of, row_line}
pub use Rattle.eco_frame.specs.Reports.{FrameDone, Frames, IsFrameBy, drawn_in}
pub use Rattle.eco_frame.specs.declared.stop.FrameStop.{FrameStop}
pub use Rattle.eco_grammar.specs.Readings.{Reads, ReadsAll, ReadsInMemory, ReadsOnce, entity_of_placed, id_of, ok_both, ok_map, query_of}
pub use Rattle.eco_ids.specs.Answer.{Row, answer}
pub use Rattle.eco_ids.specs.Births.{Creates, Makes, MakesAlive, MakesAliveWith, MakesComponent, bare, component_record, may_admit, may_make}
pub use Rattle.eco_ids.specs.Indices.{Indexed, admitted, is_free_at, next_entity, with_new}
pub use Rattle.eco_ids.specs.Names.{is_borne, is_name, is_proper, is_same_name, is_taken, is_text, lookup}
pub use Rattle.eco_ids.specs.Outcome.{Answers, Meets, Refuses, first_refusal, is_out_of_memory}
pub use Rattle.eco_ids.specs.Renaming.{RenamesWith}
pub use Rattle.eco_ids.specs.Terms.{QueryTerm}
pub use Rattle.eco_ids.specs.World.{OnEntities, Record, WorldState, entities, has, is_alive, living, names_living, with_entities}
pub use Rattle.eco_ids.specs.declared.entity.Entity.{Entity}
pub use Rattle.eco_ids.specs.declared.id.Id.{Id}
pub use Rattle.eco_ids.specs.declared.refusal.Refusal.{Refusal}
pub use Rattle.eco_ids.specs.declared.refusal.Refusal.TheVariants.{BadName, DeadId, NameTaken, NoMoreIds, NoSuchQuery, NotAlive, NotData, OutOfMemory, Reserved}
pub use Rattle.eco_ids.specs.declared.refusal.Refusal.TheVariants.{SystemNameTaken, Taken, TooWide}
pub use Rattle.eco_query.specs.Queries.{QuerySlot}
pub use Rattle.eco_scan.specs.Grammar.{SpellsId, SpellsQuery, SpellsRef}
pub use Rattle.eco_script.specs.Laws.{HaveOneText, is_frame}
pub use Rattle.eco_script.specs.Replies.{AnswersAdded, Calls, Changes, DeclaresSystem, On, ReadsSystem, Replies, Reply, RunsFrame, StepReplies, Then, done}
pub use Rattle.eco_script.specs.Replies.{found, frame_reply, framed, got, listed, merged, shown, stopped, truth, unless, with_declared}
pub use Rattle.eco_script.specs.States.{NamedSystem, ScriptState, is_declared, name_refusal, script_system}
pub use Rattle.eco_script.specs.Systems.{IsScriptOf, ReadsBody, handles_taken, model_by, named, reached, recorded_by}
pub use Rattle.eco_script.specs.Text.{Does, DoesBut, Text, TextInMemory, TextToEnd, command_line, command_lines, has_stopped, has_wanted, outcome_line}
pub use Rattle.eco_script.specs.Text.{step_lines}
pub use Rattle.eco_stages.specs.Outcomes.{Outcomes}
pub use Rattle.eco_steps.specs.Commands.{WrittenChange, WrittenCommand}
pub use Rattle.eco_steps.specs.Steps.{KeepsTo, WrittenStep}
pub use Rattle.eco_steps.specs.Views.{actions_view, script_view, stages_view, step_view}
pub use Rattle.eco_systems.specs.Batches.{joined}
pub use Rattle.eco_systems.specs.Frames.{BatchDraws, BatchRuns, FrameOutcomes, InTurn}
pub use Rattle.eco_systems.specs.declared.phase.Phase.{Phase}
pub use Rattle.eco_world.specs.Merging.{Merges, RunsAdmitted, may_merge}
