-- The names that most proofs here cite, passed on from one place. Declares nothing.
pub use Rattle.eco_ids.proofs.Common.{Bool, HasWritten, IsPlainFormatter, IsTotalOrder, List, None, Option, Some, [], ap, arith, codes, common_steps, false}
pub use Rattle.eco_ids.proofs.Common.{filter, flat_map, has_item, id_cmp, if◌then◌else◌, is_least_match, is_some, list_all, list_any, map, option_to_list}
pub use Rattle.eco_ids.proofs.Common.{pattern_matches, pointwise, refl, same_filling, sym, take, take_all, tied_itself, true, ℕ, ◌&&◌, ◌++◌, ◌||◌}
pub use Rattle.eco_ids.proofs.Common.{◌∙◌, ◌∷◌, ◌≡◌}
pub use Rattle.std.proofs.Common.{find}
pub use Rattle.eco_ids.proofs.Further.{copies_further, flat_map_further, map_further}
pub use Rattle.eco_ids.specs.declared.pattern.Pattern.{Pattern}
pub use Rattle.eco_query.specs.Canonical.{joined_by, slot_text}
pub use Rattle.eco_query.specs.Queries.{has_any, holds, patterns_of, slot_view, term_view}
pub use Rattle.eco_query.specs.declared.slot.Slot.{Slot}
