-- The text of a name as it is kept.
use Rattle.std.specs.Prelude.{ℕ, List, string_bytes}
use Rattle.eco_entities.specs.declared.label.Label.{Label}
use Rattle.eco_entities.specs.declared.label.Label.TheVariants as label

-- the text
abbrev pub label_text : Label → List ℕ
label_text (label.Short text) = text.bytes
label_text (label.Long text) = string_bytes text
