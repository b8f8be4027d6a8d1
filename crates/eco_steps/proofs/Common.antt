-- The names that most proofs here cite, passed on from one place. Declares nothing.
pub use Rattle.std.proofs.Common.{Bool, List, None, Option, Some, [], ap, append_assoc, arith, codes, drop, false, get_or, if◌then◌else◌, length, map}
pub use Rattle.std.proofs.Common.{nat_le, nat_lt, negsuc, of_z, option_and_then, option_map, pos, refl, replicate, rules, slice_get, subst, suc, sym, take}
pub use Rattle.std.proofs.Common.{to_z, true, zero, ℕ, ℤ, ◌&&◌, ◌++◌, ◌+◌, ◌-◌, ◌<◌, ◌^◌, ◌∙◌, ◌∷◌, ◌≡◌, ◌≤◌}
pub use Rattle.std.proofs.lemmas.List.{append-nil, drop-drop, drop-replicate, drop-set-lt, drop_all, drop_more, length-drop, length-map, length-replicate}
pub use Rattle.std.proofs.lemmas.List.{map-append, take-append-drop, take_more_set}
pub use Rattle.std.proofs.lemmas.Option.{option_and_then_some}
pub use Rattle.std.proofs.lemmas.Slice.Zip.{AllZip-long}
pub use Rattle.std.specs.List.{All, AllZip, list_all}
pub use Rattle.std.specs.Option.{IsSome, is_some, option_or, unwrap_or}
pub use Rattle.std.specs.Str.{bytes_eq}
pub use Rattle.eco_ids.specs.Edition.{builtin_count, largest_arity}
pub use Rattle.eco_ids.specs.World.{padded}
pub use Rattle.eco_ids.specs.declared.edition.Edition.{Edition}
pub use Rattle.eco_ids.specs.declared.edition.Edition.TheVariants.{First, Second}
pub use Rattle.eco_ids.specs.declared.value.TheConstants.{FIELD_COUNT}
pub use Rattle.eco_steps.specs.Decode.{Parts, Words, action_in, action_of, action_of_none, action_of_slot, action_of_text, actions_in, at_word, bare_actions}
pub use Rattle.eco_steps.specs.Decode.{bare_steps, change_of_text, change_of_texts, change_of_three, change_of_two, change_with, command_in, command_with}
pub use Rattle.eco_steps.specs.Decode.{created_of, each_in, edition_of, integer_in, items_list, limit_in, list_in, merge_of_data, name_in, named_system_of_data}
pub use Rattle.eco_steps.specs.Decode.{number_in, parts_in, parts_of, parts_with, phase_of, script_in, script_of, slot_in, stage_in, stages_in, step_in}
pub use Rattle.eco_steps.specs.Decode.{step_of, step_of_none, step_of_one, step_of_text, step_of_texts, step_of_two, step_with, system_of_data, text_actions}
pub use Rattle.eco_steps.specs.Decode.{text_changes, text_steps, texts_changes, texts_steps, value_of_data, value_of_items, version_in, words_in, words_of}
pub use Rattle.eco_steps.specs.Views.{action_view, command_view, commands_view, step_view}
pub use Rattle.serde_json.specs.Find.{as_str}
pub use Rattle.serde_json.specs.View.{items_of, view}
