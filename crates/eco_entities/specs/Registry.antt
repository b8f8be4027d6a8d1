-- That the living are listed under their names.
use Rattle.std.specs.Prelude.{◌≡◌, ℕ, true, List, Option, Some}
use Rattle.eco_ids.specs.declared.entity.Entity.{Entity}
use Rattle.eco_ids.specs.Names.{is_proper}

-- each entity that has a name is listed under it, and no two have the same
pub record IsRegistry (listed : List ℕ → Entity → Type 0) (own : Entity → Option (List ℕ)) : Type 0 where
  pub listed_so : (name : List ℕ) (e : Entity) → own e ≡ Some name → listed name e
  pub unique : (a b : Entity) (name : List ℕ) → own a ≡ Some name → own b ≡ Some name → a ≡ b
  pub proper : (e : Entity) → is_proper (own e) ≡ true

-- nobody of this name is among those
abbrev pub HasNobody : (Entity → Option (List ℕ)) → List ℕ → (Entity → Type 0) → Type 0
HasNobody own name among = (e : Entity) → own e ≡ Some name → among e → ⊥

-- nobody has the name
abbrev pub IsUnused : (Entity → Option (List ℕ)) → List ℕ → Type 0
IsUnused own name = (e : Entity) → own e ≡ Some name → ⊥

-- somebody has it
abbrev pub IsBorne : (Entity → Option (List ℕ)) → List ℕ → Type 0
IsBorne own name = (e : Entity) × (own e ≡ Some name)
