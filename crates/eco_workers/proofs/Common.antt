-- The names that most proofs here cite, passed on from one place. Declares nothing.
pub use Rattle.std.proofs.Common.{Bool, IfErr, IfOk, List, None, Option, Some, [], ap, append_assoc, arith, cond, drop, eqb, false, get_or, inl, inr, length}
pub use Rattle.std.proofs.Common.{length-append, map, min, refl, replicate, rules, set, subst, suc, sym, take, true, vec_len, zero, ℕ}
pub use Rattle.std.proofs.Common.{◌++◌, ◌+◌, ◌-◌, ◌<◌, ◌∙◌, ◌∷◌, ◌≡◌, ◌≢◌, ◌≤◌, ◌⊎◌}
pub use Rattle.std.proofs.lemmas.Bool.Decides.{nat_tests}
pub use Rattle.std.proofs.lemmas.List.{append-nil, drop_more, ext_get_or, get_or-map, get_or-replicate, get_or-set_other, get_or-set_same, get_or_default}
pub use Rattle.std.proofs.lemmas.List.{get_or_past, length-map, length-replicate, length-set, length-take-le, map-append, map-set, map_more, map_push}
pub use Rattle.std.proofs.lemmas.List.{nil_from_length, replicate_more, take-append-drop, take_all, take_more}
pub use Rattle.std.proofs.lemmas.List.Concat.{flat_map-append}
pub use Rattle.std.proofs.lemmas.List.Elements.{All-append, All-cons, All-from_get_or, All-head, All-map, All-nil, All-pop, All-push, All-tail, All-weaker}
pub use Rattle.std.proofs.lemmas.List.Elements.{Contains-append_left, Contains-append_right, Contains-push}
pub use Rattle.std.proofs.lemmas.List.FromFn.{get_or-range_with_len, length-range_with_len, map-range_with_len_more}
pub use Rattle.std.proofs.lemmas.Option.{same_Some, slice_get_read, slice_get_within}
pub use Rattle.std.proofs.lemmas.Result.{IfOk-weaker, err_from_is_err_and}
pub use Rattle.std.specs.List.{All, AllZip, Contains, concat, flat_map, range_with_len, slice_get}
pub use Rattle.std.specs.Prelude.{count_by}
pub use Rattle.std.specs.Vec.Iter.{into_iter_items}
pub use Rattle.eco_ids.specs.Run.{Command}
pub use Rattle.eco_ids.specs.declared.refusal.Refusal.{Refusal}
pub use Rattle.eco_ids.specs.declared.refusal.Refusal.TheVariants.{NoMoreIds, OutOfMemory}
pub use Rattle.eco_stages.specs.Taking.{Broke, IsStopped, Took, by_index, fresh, stopped_by}
pub use Rattle.eco_tickets.specs.Counting.{all_above, ascends, once, share, times, total}
pub use Rattle.eco_tickets.specs.declared.ticket.Ticket.{Ticket}
pub use Rattle.eco_tickets.specs.declared.word.Share.{Share}
pub use Rattle.eco_workers.specs.Alone.{IsInTurn, IsOutInTurn, all_of}
pub use Rattle.eco_workers.specs.Batches.{AreStages, IsBatch, IsOut, placed_stages}
pub use Rattle.eco_workers.specs.Entries.{Entry, IsEntry, IsFoundShort, IsGathered, IsGood, IsLog, IsShare, IsShared, IsShort, IsStage, entry_of}
pub use Rattle.eco_workers.specs.Entries.{piece_of_entry, share_of}
pub use Rattle.eco_workers.specs.Rounds.{Alone, IsNewSeatOf, IsSeatOf, base_of, claimed, done_count, drawn, dry_count, is_done, is_dry, limit_of, seats_of}
pub use Rattle.eco_workers.specs.Workers.{HasEnded, IsBroken, IsFound, IsGoing, IsNewJobOf, IsPast, IsStop, IsUnrefused, IsWorked, ends_of}
pub use Rattle.eco_workers.specs.declared.collected.Collected.{Collected}
pub use Rattle.eco_workers.specs.declared.end.End.{End}
pub use Rattle.eco_workers.specs.declared.end.End.TheVariants.{Done, NoMemory, Refused}
pub use Rattle.eco_workers.specs.declared.seat.Seat.{Seat}
pub use Rattle.eco_workers.specs.declared.worked.Worked.{Worked}
