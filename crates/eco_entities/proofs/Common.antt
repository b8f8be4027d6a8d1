-- The names that most proofs here cite, passed on from one place. Declares nothing.
pub use Rattle.std.proofs.Common.{Bool, Err, IfOk, IsTrue, List, MatchOption, None, Ok, Option, Result, Some, [], ap, arith, bit_or, cond, drop, eq-eqb, eqb}
pub use Rattle.std.proofs.Common.{eqb-true, false, get_or, if◌then◌else◌, inl, inr, is_some, length, lit<, map, max, min, nat_le, nat_lt, not}
pub use Rattle.std.proofs.Common.{option_and_then, option_copied, option_map, refl, replicate, rules, set, slice_get, slice_index, slice_set, subst}
pub use Rattle.std.proofs.Common.{suc, sym, IsSome}
pub use Rattle.std.proofs.Common.{take, true, vec_capacity, vec_len, zero, ℕ, ◌%◌, ◌&&◌, ◌*◌, ◌++◌, ◌+◌, ◌-◌, ◌/◌, ◌<◌}
pub use Rattle.std.proofs.Common.{◌==◌, ◌^◌, ◌∙◌, ◌∷◌, ◌≡◌, ◌≢◌, ◌≤◌, ◌⊎◌}
pub use Rattle.std.proofs.lemmas.Bool.{MatchBool-at_false, MatchBool-at_true, and_parts, cases_Bool, cases_eq, cases_lt, cond-false, cond-true, eqb-false}
pub use Rattle.std.proofs.lemmas.Bool.{false_from_ne_true, false≢true, le-ltb, lt-ltb, ltb-false, ltb-true, ne_eqb}
pub use Rattle.std.proofs.lemmas.Cmp.{by_ranked, nat_cmp_total, ranked}
pub use Rattle.std.proofs.lemmas.Grind.{common_steps}
pub use Rattle.std.proofs.lemmas.List.Elements.{All-append, All-drop, All-from_recursion, All-get_or, All-head, All-nil, All-push, All-set, All-tail}
pub use Rattle.std.proofs.lemmas.List.Elements.{All-take, All-weaker}
pub use Rattle.std.proofs.lemmas.List.{at_drop_all, at_drop_more}
pub use Rattle.std.proofs.lemmas.Map.Text.{btree_map_updates_text, is_eq-slice_cmp}
pub use Rattle.std.proofs.lemmas.Option.{cond_some, get_or_from_slice_get, none-some, same_Some, slice_get-get_or, slice_get_past, slice_get_read}
pub use Rattle.std.proofs.lemmas.Option.{slice_get_within}
pub use Rattle.std.proofs.lemmas.Slice.Eq.{bytes_eq-Decides}
pub use Rattle.std.specs.BTreeMap.{BTreeMap, UpdatesBy, get_by, get_by_text, is_at}
pub use Rattle.std.specs.Cmp.Lexicographic.{slice_cmp}
pub use Rattle.std.specs.FinMap.Entries.{below_all, by_order, find, find-put, find-where_key, is_sorted, is_sorted-put, is_sorted-where_key, put, where_key}
pub use Rattle.std.specs.Int.Bits.{or_zero_r}
pub use Rattle.std.specs.List.{All, AllZip, position_from, remove}
pub use Rattle.std.specs.Map.{lookup, update}
pub use Rattle.std.specs.Option.{option_or}
pub use Rattle.std.specs.Ordering.{eq_by_cmp, is_eq, is_lt, nat_cmp, ordering_then}
pub use Rattle.std.specs.Prelude.{MatchResult, OnErr, OnOk, String, T, string_bytes}
pub use Rattle.std.specs.Str.{bytes_eq}
pub use Rattle.std.specs.declared.cmp.Ordering.TheVariants.{Equal, Greater, Less}
pub use Rattle.eco_entities.specs.Cells.{BucketState, IsAt, IsFullAt, IsIn, HasMark, HasMarkAt, KeepsAll, bucket_of, cell_to, cells_for, mark_of, tag_of}
pub use Rattle.eco_entities.specs.Changes.{ChangesAt, KeepsAnswers}
pub use Rattle.eco_entities.specs.Label.{label_text}
pub use Rattle.eco_entities.specs.Labels.{label_of}
pub use Rattle.eco_entities.specs.Listed.{IsListed}
pub use Rattle.eco_entities.specs.Needs.{NeedsNeverGrow, need_in, need_of}
pub use Rattle.eco_entities.specs.Pages.{IsEntry, IsGap, SameTexts, name_at, text_at}
pub use Rattle.eco_entities.specs.Registration.{Registration, entity_at, entity_in, given_name, newcomer, own_arity, own_place, placed, renamed}
pub use Rattle.eco_entities.specs.Registry.{HasNobody, IsBorne, IsRegistry, IsUnused}
pub use Rattle.eco_entities.specs.Runs.{Admit, Call, Create, Kill, LeadsTo, MakeAlive, NobodyLivesTwice, Rename, RunsTo, SetPlace}
pub use Rattle.eco_entities.specs.Slots.{GenerationFits, IsMarked, IsNextSlot, arity_in, is_free, is_living, is_named, living_in, living_slot}
pub use Rattle.eco_entities.specs.Slots.{next_generation}
pub use Rattle.eco_entities.specs.Slots.{place_in, put_at, registration_of, state_at, state_of, states}
pub use Rattle.eco_entities.specs.Words.{FillsBits, IsFirstWord, IsLowestBit, Summarizes, range_mask, with_bit, without_bit}
pub use Rattle.eco_entities.specs.declared.cell.Cell.{Cell}
pub use Rattle.eco_entities.specs.declared.label.Label.{Label}
pub use Rattle.eco_entities.specs.declared.place.Place.{Place}
pub use Rattle.eco_entities.specs.declared.slot.Slot.{Slot}
pub use Rattle.eco_entities.specs.declared.slots.Slots.TheInside.{Inside}
pub use Rattle.eco_ids.proofs.Lists.{map-replicate, set_own, slice_get-push_last, slice_get-set_other, slice_get-set_same, slice_get-set_there}
pub use Rattle.eco_ids.proofs.Results.{err_says, on_err, on_ok}
pub use Rattle.eco_ids.proofs.States.{living_at, record_at, record_here}
pub use Rattle.eco_ids.specs.Births.{Admits, Makes, MakesAliveWith, may_admit, may_make, unfit_name}
pub use Rattle.eco_ids.specs.Indices.{Free, IndexState, Indexed, Living, Retired, admitted, change_kept, changed, is_alive, is_free_at, is_free_in}
pub use Rattle.eco_ids.specs.Indices.{living_from}
pub use Rattle.eco_ids.specs.Indices.{lowest_free, map_state, next_entity, raised, record_in, record_of, with_death, with_new, with_record}
pub use Rattle.eco_ids.specs.Names.{is_called, is_name, is_text, named_entity}
pub use Rattle.eco_ids.specs.Outcome.{Answers, Meets, Refuses, first_refusal, is_out_of_memory}
pub use Rattle.eco_ids.specs.Renaming.{RenamesWith, may_rename, own_name, unfit_rename}
pub use Rattle.eco_ids.specs.declared.entity.Entity.{Entity}
pub use Rattle.eco_ids.specs.declared.refusal.Refusal.{Refusal}
pub use Rattle.eco_ids.specs.declared.refusal.Refusal.TheVariants.{BadName, NameTaken, NoMoreIds, Taken}
