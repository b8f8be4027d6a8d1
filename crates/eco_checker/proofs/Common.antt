-- The names that most proofs here cite, passed on from one place. Declares nothing.
pub use Rattle.std.proofs.Common.{All, Bool, Err, IfOk, IsUtf8, List, None, Ok, OnOk, Option, Result, Some, [], ap, arith, false, flat_map, get_or, inl, inr}
pub use Rattle.std.proofs.Common.{length, ltb, ltb-false, map, option_and_then, option_map, refl, string_bytes, suc, sym, take, true, zero, ℕ, ◌++◌}
pub use Rattle.std.proofs.Common.{◌+◌, ◌<◌, ◌∙◌, ◌∷◌, ◌≡◌, ◌≢◌, ◌≤◌}
pub use Rattle.std.proofs.lemmas.List.{append-nil, append_assoc, length-map, length-take-le, map-append, take_all, take_more}
pub use Rattle.std.specs.Option.{is_some, unwrap_or}
pub use Rattle.std.specs.Prelude.{codes, decimal}
pub use Rattle.eco_checker.specs.Faults.{edition_in, first_edition, items_in, numbers_without, third_items, unless_found, unless_read}
pub use Rattle.eco_checker.specs.Lines.{AreFaultLines, AreFaults, AreOfStep, AreOfSteps, IsOfStep, last_line, plural_end, unread_text}
pub use Rattle.eco_checker.specs.Places.{AddsLines, AddsSome, place_step, place_text}
pub use Rattle.eco_steps.specs.Decode.{Parts, action_in, command_in, each_in, limit_in, list_in, parts_in, parts_of, parts_with, step_in, version_in}
pub use Rattle.eco_steps.specs.Script.{IsScript, IsScriptData, WrittenScript}
pub use Rattle.eco_steps.specs.Steps.{IsStepData, WrittenStep}
pub use Rattle.eco_steps.specs.Views.{action_view, command_view, step_view}
pub use Rattle.serde_json.specs.Data.{Data}
pub use Rattle.serde_json.specs.View.{view}
