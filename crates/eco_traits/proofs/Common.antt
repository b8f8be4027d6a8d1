-- The names that most proofs here cite, passed on from one place. Declares nothing.
pub use Rattle.std.proofs.Common.{Bool, Err, IfOk, IsFalse, IsTrue, List, MatchBool, None, Ok, Option, Ordering, Result, Some, [], ap, arith, cond, false}
pub use Rattle.std.proofs.Common.{filter, fold, get_or, if◌then◌else◌, inl, inr, is_eq, is_lt, is_some, length, map, not, option_copied, option_map}
pub use Rattle.std.proofs.Common.{option_to_list, refl, rules, slice_get, subst, suc, sym, take, true, true≢false, unwrap_or, zero, ℕ, ◌&&◌, ◌++◌}
pub use Rattle.std.proofs.Common.{◌+◌, ◌<◌, ◌==◌, ◌||◌, ◌↔◌, ◌∙◌, ◌∷◌, ◌≡◌, ◌⊎◌}
pub use Rattle.std.proofs.Math.Bool.{or-false, or_assoc, or_comm}
pub use Rattle.std.proofs.Math.Seq.{take-length}
pub use Rattle.std.proofs.lemmas.Bool.{and_right, or_left}
pub use Rattle.std.proofs.lemmas.Grind.{common_steps}
pub use Rattle.std.proofs.lemmas.List.{append-nil, map_more, take_all, take_more}
pub use Rattle.std.proofs.lemmas.Result.{IfOk-weaker, err_from_is_err_and}
pub use Rattle.std.specs.FinMap.Entries.{find, is_sorted-where_key, where_key}
pub use Rattle.std.specs.List.{list_any}
pub use Rattle.eco_ids.proofs.Ascending.{ascending_with, both, first, second}
pub use Rattle.eco_ids.proofs.Exact.{id_eq_sym, keys, keys_find, keys_kept, keys_zeros}
pub use Rattle.eco_ids.proofs.Facts.{any_is, equal_tie, id_eq_is, id_eq_itself, or_parts, or_right, same_or_apart, same_tests, to_T}
pub use Rattle.eco_ids.proofs.Gains.{same_relationship}
pub use Rattle.eco_ids.proofs.IdOrder.{entity_cmp_total, id_cmp_total, same_entity, same_id}
pub use Rattle.eco_ids.proofs.Keeps.{entry_of, has_in, some_of}
pub use Rattle.eco_ids.proofs.Members.{all_item, same_members}
pub use Rattle.eco_ids.proofs.Overlaps.{entity_eq_is, entity_eq_itself}
pub use Rattle.eco_ids.proofs.SetLaws.{joins_with}
pub use Rattle.eco_ids.specs.Edition.{has_symmetric, late_traits}
pub use Rattle.eco_ids.specs.Least.{Least, next, root}
pub use Rattle.eco_ids.specs.Mirrors.{has_clash, is_with, mirror_of, mirrored_pair, would_be_barred, would_clash}
pub use Rattle.eco_ids.specs.Order.{entity_cmp, entity_eq, has_item, id_cmp, id_eq, is_ascending, with_item, without_item}
pub use Rattle.eco_ids.specs.Step.{ClosesCycle, IsClosure, IsFirstCycle, Judges, grown, is_late, is_pair_of, is_replaced, is_used, is_wrong_policy}
pub use Rattle.eco_ids.specs.Step.{with_closure}
pub use Rattle.eco_ids.specs.Traits.{Brings, InClosure, Reaches}
pub use Rattle.eco_ids.specs.World.{Record, WorldState, first_world, has, held_by, is_acyclic, is_alive, is_exclusive, is_symmetric, living, names_living}
pub use Rattle.eco_ids.specs.World.{record_of, zeros}
pub use Rattle.eco_ids.specs.declared.edition.Edition.{Edition}
pub use Rattle.eco_ids.specs.declared.entity.Entity.{Entity}
pub use Rattle.eco_ids.specs.declared.entity.TheConstants.{ACYCLIC, EXCLUSIVE, SYMMETRIC, WITH}
pub use Rattle.eco_ids.specs.declared.id.Id.{Id}
pub use Rattle.eco_ids.specs.declared.id.Id.TheVariants.{One, Two}
pub use Rattle.eco_ids.specs.declared.refusal.Refusal.{Refusal}
pub use Rattle.eco_ids.specs.declared.refusal.Refusal.TheVariants.{Cycle, InUse, NotAPolicy, TraitClash}
pub use Rattle.eco_ids.specs.declared.value.Value.{Value}
pub use Rattle.eco_traits.specs.Closure.{BringNoMore, HasBrought, HasGiven, HasSameIds, LacksWith, gives, head_of, with_head, with_heads}
pub use Rattle.eco_traits.specs.Prospect.{is_trait}
pub use Rattle.eco_traits.specs.Target.{AddLeadsTo, AppendsTargets, BringsNone, ClosesBy, ExtendsTo, FindsTarget, FindsType, IsAmong, IsClosedBy, IsPlain}
pub use Rattle.eco_traits.specs.Target.{AreFreeHeads, AreNoTraits, BringsTrait, IsReach}
pub use Rattle.eco_traits.specs.Target.{BringFreely, ComesFreely, IsNoTrait, IsSound, LacksTraits, Replaces, extended_by, left_by, target_by_pair, ties}
pub use Rattle.eco_traits.specs.Target.{type_of_entity, type_of_record, without_replaced}
