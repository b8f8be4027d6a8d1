-- The names that most proofs here cite, passed on from one place. Declares nothing.
pub use Rattle.eco_ids.proofs.Common.{common_steps, pointwise, pointwise_decides}
pub use Rattle.std.proofs.Common.{Bool, Equal, Err, Greater, IsTrue, Less, List, None, Ok, OnOk, Option, Ordering, Result, Some, [], ap, append_assoc, arith}
pub use Rattle.std.proofs.Common.{cond, drop, eqb-true, false, flat_map, get_or, if◌then◌else◌, inl, inr, is_eq, length, length-append, length-drop, map}
pub use Rattle.std.proofs.Common.{option_copied, option_map, option_to_list, refl, slice_get, subst, suc, sym, take, true, true≢false, zero, ℕ, ◌&&◌}
pub use Rattle.std.proofs.Common.{◌++◌, ◌+◌, ◌-◌, ◌<◌, ◌==◌, ◌^◌, ◌||◌, ◌↔◌, ◌∙◌, ◌∷◌, ◌≡◌, ◌≤◌}
pub use Rattle.std.proofs.Common.{◌⊎◌}
pub use Rattle.std.proofs.Math.Bool.{and-true, or-false, or-true, or_assoc}
pub use Rattle.std.proofs.lemmas.List.{append-nil, drop-append-le, drop_all, drop_more, flat_map_more, map-append, map_push, take-append-le, take_all}
pub use Rattle.std.proofs.lemmas.List.{take_more}
pub use Rattle.std.proofs.lemmas.List.Folds.{list_any-append}
pub use Rattle.std.proofs.lemmas.Option.{none-some, same_Some}
pub use Rattle.std.proofs.lemmas.Result.{IfOk-weaker}
pub use Rattle.std.specs.Bool.{Decides}
pub use Rattle.std.specs.List.{AllByRecursion, AllZip, IsDistinct, list_any}
pub use Rattle.std.specs.Ordering.{eq_by_cmp, ordering_then}
pub use Rattle.eco_frame.specs.Brought.{AreClosed, BringsNothing, HasKnownTarget, brought, brought_by, ids_in, key_pattern, keys_by, known_keys, pattern_key}
pub use Rattle.eco_frame.specs.Brought.{same_pattern, targets_below, unrepeated}
pub use Rattle.eco_frame.specs.Keys.{IsNoted, part_entity}
pub use Rattle.eco_frame.specs.OutlineModels.{IsWithin, OutlineModel, outline_of}
pub use Rattle.eco_frame.specs.Outlines.{ArePlacedBatches, IsOutline, clash_at, clash_of, closed_in, cut_of, disturbs, kills_in, kills_too, late_at}
pub use Rattle.eco_frame.specs.Outlines.{IsKnown, ListsFew, no_system, reads_in, system_at, system_in, system_of, systems_of, traits_in}
pub use Rattle.eco_frame.specs.Written.{HasAllPairs, HasPair, HasPairs, HasSingle, HasWild, IsNothing, overlaps, overlaps_pairs}
pub use Rattle.eco_frame.specs.declared.declared_system.Declared.{Declared}
pub use Rattle.eco_frame.specs.declared.key.Key.{Key}
pub use Rattle.eco_frame.specs.declared.outline.Outline.{Outline}
pub use Rattle.eco_ids.proofs.Each.{all_append, some_exact, some_left, some_right}
pub use Rattle.eco_ids.proofs.Facts.{id_eq_is, id_eq_itself, neither, off, or_left, or_parts, or_right, same_tests}
pub use Rattle.eco_ids.proofs.Overlaps.{entity_eq_is, entity_eq_itself}
pub use Rattle.eco_ids.specs.Least.{SomeOf}
pub use Rattle.eco_ids.specs.Matching.{pattern_overlaps}
pub use Rattle.eco_ids.specs.World.{Record, WorldState, has, record_of}
pub use Rattle.eco_ids.specs.declared.entity.Entity.{Entity}
pub use Rattle.eco_ids.specs.declared.id.Id.{Id}
pub use Rattle.eco_ids.specs.declared.pattern.Part.{Part}
pub use Rattle.eco_ids.specs.declared.pattern.Part.TheVariants.{Any, Each, Is}
pub use Rattle.eco_ids.specs.declared.pattern.Pattern.{Pattern}
pub use Rattle.eco_ids.specs.declared.pattern.Pattern.TheVariants.{One, Two}
pub use Rattle.eco_query.specs.Queries.{has_any}
pub use Rattle.eco_systems.specs.Closing.{ListsClosed, pattern_head, pattern_with_head}
pub use Rattle.eco_systems.specs.Joining.{batched}
pub use Rattle.eco_systems.specs.Phases.{in_order, order_of, positions_from}
pub use Rattle.eco_systems.specs.Writes.{BringsPattern, InClosedPatterns, IsTraitWriter, widened, writes_trait}
pub use Rattle.indexmap.specs.IndexSet.{insert_all, insert_key}
