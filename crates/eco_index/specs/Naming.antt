-- Whom the ids name under whose patterns slots are listed.
use Rattle.std.specs.Prelude.{ℕ, Bool, ◌||◌, IsTrue, List, is_some}
use Rattle.std.specs.HashMap.{HashMap, get}
use Rattle.std.specs.List.{list_any}
use Rattle.eco_ids.specs.declared.entity.Entity.{Entity}
use Rattle.eco_ids.specs.declared.pattern.Pattern.{Pattern}
use Rattle.eco_index.specs.declared.id_index.key.Key.{Key}
use Rattle.eco_index.specs.declared.id_index.key.Key.TheVariants.{Single, Relationship, Target}
use Rattle.eco_index.specs.declared.id_index.slots.Slots.{Slots}
use Rattle.eco_index.specs.IdIndex.{Lists, same_key}

-- some slot is listed under one of the patterns
abbrev pub ListsSome : Lists → List Pattern → Type 0
ListsSome now ps = (n : ℕ) × IsTrue (list_any (λ p. now p n) ps)

-- a key is kept of the entity alone, as a relationship or as a target
abbrev pub keeps_name : {S : Type 0} → HashMap Key Slots S → Entity → Bool
keeps_name m e = is_some (get same_key m (Single e)) || (is_some (get same_key m (Relationship e)) || is_some (get same_key m (Target e)))
