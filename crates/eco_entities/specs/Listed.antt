-- Which names are listed, and with whom.
use Rattle.std.specs.Prelude.{◌≡◌, ◌⊎◌, ℕ, List, Some}
use Rattle.std.specs.BTreeMap.{get_by_text}
use Rattle.eco_ids.specs.declared.entity.Entity.{Entity}
use Rattle.eco_entities.specs.Cells.{cell_to, tag_of, IsAt, HasMarkAt}
use Rattle.eco_entities.specs.declared.names.Names.{Names}

-- a name leads to an entity, by a cell or by the tree: to whoever bears it, and maybe to some who bore it before
abbrev pub IsListed : Names → List ℕ → Entity → Type 0
IsListed names name e = IsAt names.table (cell_to (tag_of name) e)
    ⊎ (HasMarkAt names.table (tag_of name) × (get_by_text names.spilled name ≡ Some e))
