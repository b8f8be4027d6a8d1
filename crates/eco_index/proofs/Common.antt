-- The names that most proofs here cite, passed on from one place. Declares nothing.
pub use Rattle.std.proofs.Common.{Bool, Err, IfNone, IfSome, IsSome, IsTrue, List, None, Ok, OnErr, OnOk, Option, Result, Some, [], add-one, ap, arith, cond}
pub use Rattle.std.proofs.Common.{false, filter, get_or, if◌then◌else◌, inl, inr, is_some, length, nat_eq, not, option_map, position, refl, rules, set}
pub use Rattle.std.proofs.Common.{slice_get, subst, suc, sym, take, true, true≢false, unwrap_or, zero, ℕ, ◌&&◌, ◌++◌, ◌+◌, ◌-◌, ◌<◌}
pub use Rattle.std.proofs.Common.{◌==◌, ◌||◌, ◌↔◌, ◌∙◌, ◌∷◌, ◌≡◌, ◌≢◌, ◌≤◌, ◌⊎◌}
pub use Rattle.std.proofs.lemmas.Bool.{cases_lt, lt-ltb}
pub use Rattle.std.proofs.lemmas.Bool.Decides.{Decides-eqb}
pub use Rattle.std.proofs.lemmas.List.{length-append, length-set}
pub use Rattle.std.proofs.lemmas.Map.Made.{filter_same_pairs}
pub use Rattle.std.proofs.lemmas.Option.{get_or_from_slice_get, slice_get-map, slice_get_past}
pub use Rattle.std.specs.Cmp.{IsEquivalence}
pub use Rattle.std.specs.HashMap.{HashMap, IsUnchanged, IsUnique, Updates, get, keys, values}
pub use Rattle.std.specs.List.{AllByRecursion, AllZip, IsDistinct, list_any}
pub use Rattle.std.specs.Map.{lookup}
pub use Rattle.std.specs.Map.Iter.{deref_pair}
pub use Rattle.std.specs.Prelude.{nat_lt}
pub use Rattle.eco_ids.proofs.Ascending.{ascending_with, ascending_without, first, second}
pub use Rattle.eco_ids.proofs.Results.{err_says, on_err, on_ok}
pub use Rattle.eco_ids.proofs.SameIds.{entity_eq-Decides, id_eq-Decides, same_ids-Decides}
pub use Rattle.eco_ids.specs.Order.{ItemsJoin, ItemsLeave, entity_eq, has_item, id_cmp, id_eq, is_ascending, names_entity, with_item, without_item}
pub use Rattle.eco_ids.specs.OrderLaws.{id_ties}
pub use Rattle.eco_ids.specs.declared.entity.Entity.{Entity}
pub use Rattle.eco_ids.specs.declared.id.Id.{Id}
pub use Rattle.eco_ids.specs.declared.id.Id.TheVariants.{One, Two}
pub use Rattle.eco_ids.specs.declared.pattern.Part.TheVariants.{Any, Each, Is}
pub use Rattle.eco_ids.specs.declared.pattern.Pattern.{Pattern}
pub use Rattle.eco_index.specs.Edges.{Cuts, IsGraph, IsTwofold, Links, Puts, SameEdges, edge, edge_of, leads_to, same_id, toggled}
pub use Rattle.eco_index.specs.IdIndex.{HasTurned, KeepsNoEmpty, KeepsRest, Lists, ListsSame, Turns, any_matches, has_key, has_one, has_own, has_slot, is_empty}
pub use Rattle.eco_index.specs.IdIndex.{is_listed, is_only, is_own, key_of, keys_of, lists_of, matches_id, matches_some, own_count, pattern_of, same_key}
pub use Rattle.eco_index.specs.IdIndex.{slots_of}
pub use Rattle.eco_index.specs.Marks.{AreMarked, KeepsMarks, may_be_kept}
pub use Rattle.eco_index.specs.TypeMap.{IsTypeMap, is_but, same_ids, type_marked}
pub use Rattle.eco_index.specs.declared.id_index.key.Key.{Key}
pub use Rattle.eco_index.specs.declared.id_index.key.Key.TheVariants.{AnyPair, Pair, Relationship, Single, Target}
pub use Rattle.eco_index.specs.declared.id_index.marks.Marks.{Marks}
pub use Rattle.eco_index.specs.declared.id_index.slots.Slots.{Slots}
pub use Rattle.indexmap.specs.IndexMap.{with_value_at}
