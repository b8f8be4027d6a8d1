-- The names of entities by their indices.
use Rattle.std.specs.Prelude.{ℕ, List, Option}
use Rattle.eco_entities.specs.declared.labels.Labels.{Labels}
use Rattle.eco_entities.specs.Pages.{name_at}

-- the name at an index
abbrev pub label_of : Labels → ℕ → Option (List ℕ)
label_of labels index = name_at labels.pages.items index
