-- The names that most proofs here cite, passed on from one place. Declares nothing.
pub use Rattle.std.proofs.Common.{List, OnOk, ap, flat_map, refl, string_bytes, subst, sym, take, ℕ, ◌++◌, ◌∙◌, ◌≡◌}
pub use Rattle.std.proofs.lemmas.List.{append_assoc}
pub use Rattle.std.proofs.lemmas.Result.{on_ok_weaker}
pub use Rattle.eco_script.specs.Printed.{entity_lines, held_line, id_line, table_lines}
pub use Rattle.eco_world.specs.Layouts.{listed_of}
