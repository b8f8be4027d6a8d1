-- The names that most proofs here cite, passed on from one place. Declares nothing.
pub use Rattle.std.proofs.Common.{Bor, None, add-one, ap, append-nil, drop, drop-cons, get_or, length, lt_of_lt_of_le, rules, set, subst, sym}
pub use Rattle.std.proofs.Common.{vec_capacity, vec_len, ◌++◌, ◌-◌, ◌∙◌, ◌≡◌, ◌≢◌, ◌≤◌}
pub use Rattle.std.proofs.lemmas.Bool.Decides.{Decides-eqb}
pub use Rattle.std.proofs.lemmas.List.{get_or-map, get_or-set_other, get_or-set_same, get_or_default, length-set, nil_from_length, take_more}
pub use Rattle.std.proofs.lemmas.List.Elements.{All-from_recursion, recursion_from_All}
pub use Rattle.std.proofs.lemmas.List.Sorted.{All-permutation, IsPermutation-map, IsPermutation-refl, answers_always}
pub use Rattle.std.proofs.lemmas.Map.Views.{Contains-from_any}
pub use Rattle.std.proofs.lemmas.Option.{get_or_from_slice_get, slice_get-get_or, slice_get_within}
pub use Rattle.std.proofs.lemmas.Result.{IfOk-weaker}
pub use Rattle.std.specs.Cmp.{IsTotalOrder}
pub use Rattle.std.specs.FinMap.{IsAntisymmetric}
pub use Rattle.std.specs.List.{IsDistinct, slice_index_or}
pub use Rattle.std.specs.List.Sorted.{IsPermutation, IsSorted, IsSortedByKey, IsSortedWithin}
pub use Rattle.std.specs.Prelude.{IsSome, find, if◌then◌else◌, replicate}
pub use Rattle.eco_store.specs.Answers.{asked, asks}
pub use Rattle.eco_store.specs.Blocks.{AreBlocks, IsBlock, block_at, results, results_at, shown, standings_from, standings_in, standings_of}
pub use Rattle.eco_store.specs.Fixed.{AreFixed, FitsQuery, IsFixed}
pub use Rattle.eco_store.specs.Groups.{groups_of, number_after, others_hold}
pub use Rattle.eco_store.specs.Ranking.{AreRanked, IsNumbering, StandsIn, in_first, slot_number, standing_by, standing_from, standing_of, standings}
pub use Rattle.eco_store.specs.declared.standing.Standing.{Standing}
pub use Rattle.eco_archetypes.specs.Archetypes.{IsAllFound, is_found_by, row_at, standing_in}
pub use Rattle.eco_entities.specs.Registration.{Registration}
pub use Rattle.eco_entities.specs.declared.place.Place.{Place}
pub use Rattle.eco_index.specs.Flat.{IsEven}
pub use Rattle.eco_ids.proofs.Ascending.{both, first, less, second}
pub use Rattle.eco_ids.proofs.Common.{All, AllByRecursion, Bool, IsTrue, List, Option, Some, [], append_assoc, arith, cond, false, filter, flat_map}
pub use Rattle.eco_ids.proofs.Common.{has_item, inl, inr, is_le, is_lt, length-append, length-map, list_all, list_any, map, map-append, nat_eq, nat_tests}
pub use Rattle.eco_ids.proofs.Common.{none-some, not, option_copied, option_map, option_to_list, ordering_reverse, refl, same_Some, same_filling}
pub use Rattle.eco_ids.proofs.Common.{slice_get, suc, take, true, true≢false, unwrap_or, zero, ℕ, ◌&&◌, ◌+◌, ◌<◌, ◌||◌, ◌∷◌}
pub use Rattle.eco_ids.proofs.Common.{◌⊎◌}
pub use Rattle.eco_ids.proofs.Facts.{or_right}
pub use Rattle.eco_ids.proofs.IdOrder.{id_cmp_total, same_id}
pub use Rattle.eco_ids.proofs.Results.{err_says}
pub use Rattle.eco_ids.proofs.States.{record_at}
pub use Rattle.eco_ids.specs.Answer.{answer, choices, entries_of, is_least_match}
pub use Rattle.eco_ids.specs.Indices.{Free, IndexState, Indexed, Living, Retired, living_from, map_state, record_of}
pub use Rattle.eco_ids.specs.Matching.{pattern_matches}
pub use Rattle.eco_ids.specs.Order.{AscendingAreSets, entity_cmp, entity_eq, id_cmp, id_eq, is_ascending}
pub use Rattle.eco_ids.specs.Terms.{And, Not, Optional, Or, QueryTerm}
pub use Rattle.eco_ids.specs.World.{Record}
pub use Rattle.eco_ids.specs.declared.entity.Entity.{Entity}
pub use Rattle.eco_ids.specs.declared.id.Id.{Id}
pub use Rattle.eco_ids.specs.declared.pattern.Pattern.{Pattern}
pub use Rattle.eco_index.specs.TypeTests.{AreNeeded, group_at, type_matches_one}
pub use Rattle.eco_archetypes.specs.Holders.{entities_whose, passes}
pub use Rattle.eco_archetypes.specs.Records.{record_ids, type_in_store}
pub use Rattle.eco_archetypes.specs.Shown.{HasPlace, IsShown, IsStore, read, record_for, seat_at, seat_in, seat_of_place}
pub use Rattle.eco_query.specs.Queries.{QuerySlot, exactly, has_any, holds, is_positive, matches_type, patterns_of, slot_view, term_view}
pub use Rattle.eco_query.specs.declared.slot.Slot.{Slot}
pub use Rattle.eco_tables.specs.Table.{TableRow, TableState, entities_of}
pub use Rattle.eco_tables.specs.Tables.{AllAscend, AllHaveIds, no_table, slot_of, table_in}
