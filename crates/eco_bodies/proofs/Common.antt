-- The names that most proofs here cite, passed on from one place. Declares nothing.
pub use Rattle.eco_ids.proofs.Common.{flat_map, take_all}
pub use Rattle.std.proofs.Common.{Bool, IsTrue, List, None, Option, Some, [], add-one, ap, append_assoc, arith, cond, drop, eqb-true, false}
pub use Rattle.std.proofs.Common.{get_or, inl, inr, is_some, length, length-append, map, pos, refl, rules, slice_get, slice_set, subst, suc}
pub use Rattle.std.proofs.Common.{sym, take, true, true≢false, zero, ℕ, ℤ, ◌++◌, ◌+◌, ◌<◌, ◌||◌, ◌∙◌, ◌∷◌, ◌≡◌}
pub use Rattle.std.proofs.Common.{◌≤◌}
pub use Rattle.std.proofs.lemmas.List.Folds.{list_any-append}
pub use Rattle.std.proofs.lemmas.Option.{get_or_from_slice_get, none-some, slice_get-get_or, slice_get_within}
pub use Rattle.std.specs.List.{list_all, list_any}
pub use Rattle.std.specs.Prelude.{String, string_bytes, string_cmp}
pub use Rattle.eco_bodies.specs.Actions.{action_refusal, action_writes, asks_presence, first_action_refusal, is_kill, patterns_at, script_writes, slot_at}
pub use Rattle.eco_bodies.specs.Scripts.{action_commands, is_allowed, takes_draws}
pub use Rattle.eco_bodies.specs.declared.action.Action.{Action}
pub use Rattle.eco_bodies.specs.declared.action.Action.TheVariants.{AddId, Kill, Put, RemoveId, Spawn, Sum}
pub use Rattle.eco_ids.proofs.Ascending.{both}
pub use Rattle.eco_ids.proofs.Facts.{or_left, or_parts, or_right}
pub use Rattle.eco_ids.specs.Matching.{pattern_matches}
pub use Rattle.eco_ids.specs.Order.{entity_eq}
pub use Rattle.eco_ids.specs.declared.entity.Entity.{Entity}
pub use Rattle.eco_ids.specs.declared.id.Id.{Id}
pub use Rattle.eco_ids.specs.declared.pattern.Pattern.{Pattern}
pub use Rattle.eco_query.specs.Queries.{QuerySlot, exactly, slot_view}
pub use Rattle.eco_systems.specs.Systems.{matches_one}
