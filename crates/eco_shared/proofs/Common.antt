-- The names that most proofs here cite, passed on from one place. Declares nothing.
pub use Rattle.std.proofs.Common.{Bool, Err, IsTrue, List, MatchBool, None, Ok, Option, Result, Some, [], ap, arith, false, fold, length, refl, rules, set}
pub use Rattle.std.proofs.Common.{subst, suc, sym, true, true≢false, zero, ℕ, ⊎_elim, ◌++◌, ◌∙◌, ◌∷◌, ◌≡◌, ◌≢◌, ◌≤◌}
pub use Rattle.std.specs.Arc.{arc_value}
pub use Rattle.std.specs.List.{All}
pub use Rattle.eco_histories.specs.Marks.{mark_of_book}
pub use Rattle.eco_ids.specs.World.{WorldState, entities, with_entities}
pub use Rattle.eco_shared.specs.Histories.{IsAfter, IsMerged}
pub use Rattle.eco_shared.specs.Repeating.{KeepsUp, Leads, MergesHaveOneEnd, Repeats, merge_of}
pub use Rattle.eco_shared.specs.Sharing.{Follows, GoesOn, Kept, KnowsOf, Opens, Sees, Stays, history, knows, nothing, shown_state, shown_world}
pub use Rattle.eco_shared.specs.Views.{IsNew}
pub use Rattle.eco_shared.specs.declared.merge.Knows.{Knows}
pub use Rattle.eco_shared.specs.declared.merge.Merge.{Merge}
pub use Rattle.eco_shared.specs.declared.shown.Shown.{Shown}
pub use Rattle.left_right.specs.Sides.{view}
