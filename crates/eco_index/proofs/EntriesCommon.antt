-- The names that most proofs here cite, passed on from one place. Declares nothing.
pub use Rattle.std.proofs.Common.{Bool, Equal, Greater, Less, List, None, Option, Ordering, Some, [], add-one, ap, append_assoc, arith, cond, drop, drop-cons}
pub use Rattle.std.proofs.Common.{false, get_or, is_eq, is_lt, le_of_suc-le-suc, length, length-append, map, not, refl, rules, slice_get, subst, suc, suc-add}
pub use Rattle.std.proofs.Common.{sym, take, true, true≢false, unwrap_or, zero, ℕ, ◌&&◌, ◌*◌, ◌++◌, ◌+◌, ◌-◌, ◌/◌, ◌<◌}
pub use Rattle.std.proofs.Common.{◌||◌, ◌∙◌, ◌∷◌, ◌≡◌, ◌≢◌, ◌≤◌}
pub use Rattle.std.proofs.Math.Nat.{mul-div_cancel, mul-le-mul_right, suc-mul}
pub use Rattle.std.proofs.Math.Seq.{drop-append_seam, paste, set-append_seam, take-append_seam}
pub use Rattle.std.proofs.lemmas.List.{append-nil, drop-append-le, length-drop, length-map, length-take-le, map-append, map-id, nil_from_length}
pub use Rattle.std.proofs.lemmas.List.{take-append-drop, take-append-le, take_all, take_more}
pub use Rattle.std.proofs.lemmas.List.Elements.{filter-append, filter_more}
pub use Rattle.std.proofs.lemmas.List.Folds.{flat_map-map, list_all-append, list_any-append, list_any_more}
pub use Rattle.std.proofs.lemmas.Option.{get_or_from_slice_get, slice_get_within}
pub use Rattle.std.proofs.lemmas.Result.{IfOk-weaker, on_ok_weaker}
pub use Rattle.std.specs.BTreeSet.{BTreeSet, contains}
pub use Rattle.std.specs.Cmp.{tied_itself}
pub use Rattle.std.specs.List.{list_all, list_any, swap_remove}
pub use Rattle.std.specs.Prelude.{Err, IfNone, IsTrue, MatchOption, Ok, Result, filter, flat_map, is_ok, option_to_list}
pub use Rattle.eco_index.specs.Answers.{asks, has_any_part, is_any, parts_alike}
pub use Rattle.eco_index.specs.Fillings.{HasSeen, SeesMore, asked_for, filling, fills}
pub use Rattle.eco_index.specs.Flat.{ChoicesState, IsEven, chunks}
pub use Rattle.eco_index.specs.Seen.{AreApart, is_above, is_seen}
pub use Rattle.eco_ids.proofs.Ascending.{all_at, both, first, less, second}
pub use Rattle.eco_ids.proofs.IdOrder.{id_cmp_total, ids_search_says}
pub use Rattle.eco_ids.proofs.Overlaps.{entity_eq_is}
pub use Rattle.eco_ids.specs.Answer.{choices, entries_of, is_least_match, same_filling}
pub use Rattle.eco_ids.specs.Matching.{part_matches, pattern_matches}
pub use Rattle.eco_ids.specs.Order.{SearchSays, entity_cmp, entity_eq, has_item, id_cmp, id_eq, is_ascending}
pub use Rattle.eco_ids.specs.declared.entity.Entity.{Entity}
pub use Rattle.eco_ids.specs.declared.id.Id.{Id}
pub use Rattle.eco_ids.specs.declared.pattern.Part.{Part}
pub use Rattle.eco_ids.specs.declared.pattern.Part.TheVariants.{Any, Each, Is}
pub use Rattle.eco_ids.specs.declared.pattern.Pattern.{Pattern}
pub use Rattle.eco_ids.specs.declared.pattern.Pattern.TheVariants.{One, Two}
