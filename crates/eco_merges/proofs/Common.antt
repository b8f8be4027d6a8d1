-- The names that most proofs here cite, passed on from one place. Declares nothing.
pub use Rattle.std.proofs.Common.{Err, IfOk, IsTrue, List, Ok, OnErr, OnOk, Result, [], ap, append_assoc, drop, flat_map, get_or, length, refl, subst, sym}
pub use Rattle.std.proofs.Common.{take, vec_capacity, vec_len, ℕ, ◌++◌, ◌+◌, ◌-◌, ◌<◌, ◌^◌, ◌∙◌, ◌∷◌, ◌≡◌, ◌≤◌}
pub use Rattle.std.proofs.lemmas.List.{append-nil, flat_map_more, length-append, length-drop, length-map, length-replicate, length-take-le, map-append}
pub use Rattle.std.proofs.lemmas.List.{take_all, take_more, take_rest}
pub use Rattle.eco_ids.specs.declared.refusal.Refusal.{Refusal}
pub use Rattle.eco_stages.specs.Merging.{AreDone, all_commands, has_commands}
pub use Rattle.eco_stages.specs.Outcomes.{Outcomes, Written, alike_in_memory, all_done, outcomes_of, until_refused}
pub use Rattle.eco_stages.specs.Recorded.{commands_at, commands_of}
pub use native.Mathlib.Omega.{arith}
