-- The names that most proofs here cite, passed on from one place. Declares nothing.
pub use Rattle.std.proofs.Common.{Err, IsFalse, IsTrue, List, None, Ok, OnOk, Option, Result, Some, [], ap, append-nil, append_assoc, arith, codes, drop, false}
pub use Rattle.std.proofs.Common.{flat_map, get_or, is_err, length, option_map, refl, slice_get, subst, suc, sym, take, true, vec_capacity, vec_len, zero, ℕ}
pub use Rattle.std.proofs.Common.{◌++◌, ◌+◌, ◌<◌, ◌||◌, ◌∙◌, ◌∷◌, ◌≡◌, ◌≤◌}
pub use Rattle.std.proofs.lemmas.Grind.{flat_map-append, put_two}
pub use Rattle.std.proofs.lemmas.List.{flat_map_more, take-append-drop, take_all, take_more}
pub use Rattle.std.proofs.lemmas.Result.{err_from_is_err_and}
pub use Rattle.std.specs.Fmt.{HasWritten, IsPlainFormatter}
pub use Rattle.eco_script.specs.Lines.{entry_text, held_text, joined_by_commas}
pub use Rattle.eco_script.specs.Recording.{ReadsAction, ReadsActions, ReadsCommand, ReadsCommands, ReadsEach}
pub use Rattle.eco_script.specs.Values.{Shown, shown_value}
pub use Rattle.eco_stages.specs.Merging.{all_commands}
pub use Rattle.eco_steps.specs.Views.{action_view, actions_view, command_view, commands_view, stages_view}
