-- Choices of entries by their places.
use Rattle.std.specs.Prelude.{List, Option, replicate}
use Rattle.eco_ids.specs.declared.id.Id.{Id}
use Rattle.eco_store.specs.declared.entries.Kept.{Kept}
use Rattle.eco_store.specs.declared.entries.Kept.TheVariants as kept

-- the choices that are kept
abbrev pub kept_ones : Kept → List (List (Option Id))
kept_ones (kept.Same choice count) = replicate count choice.items
kept_ones (kept.Each choices) = choices.all
