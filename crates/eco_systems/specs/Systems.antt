-- Systems as contracts see them, and the law of their bodies.
use Rattle.std.specs.Prelude.{Bool, IsTrue, List, ◌++◌}
use Rattle.std.specs.List.{list_any, AllByRecursion}
use Rattle.eco_ids.specs.declared.entity.Entity.{Entity}
use Rattle.eco_ids.specs.declared.id.Id.{Id}
use Rattle.eco_ids.specs.declared.pattern.Pattern.{Pattern}
use Rattle.eco_ids.specs.Matching.{pattern_matches}
use Rattle.eco_ids.specs.Run.{Command, Create, Add, Remove, Set, Clear, Rename, Delete, DeleteWith, RemoveAll}
use Rattle.eco_query.specs.Queries.{QuerySlot, HasPositive, reads}
use Rattle.eco_systems.specs.declared.phase.Phase.{Phase}
use Rattle.eco_systems.specs.Rows.{ValuedRow}

-- a system: when it runs, what it asks for, and its body, which is known by what it declares and by what it records.
-- `takes row draws`: the row takes these draws, no more and no fewer; `records row draws`: the commands that it records then
pub record SystemModel : Type 0 where
  pub phase : Phase
  pub slots : List QuerySlot
  pub body_reads : List Pattern
  pub writes : List Pattern
  pub kills : Bool
  pub takes : ValuedRow → List Entity → Bool
  pub records : ValuedRow → List Entity → List Command

-- all patterns of its query, whatever their access, and those that its body adds
abbrev pub system_reads : SystemModel → List Pattern
system_reads s = reads s.slots ++ s.body_reads

-- the id matches one of the patterns
abbrev pub matches_one : List Pattern → Id → Bool
matches_one patterns i = list_any (λ p. pattern_matches p i) patterns

-- a body that declares these writes, and whether it deletes or clears entities, may record the command
abbrev pub IsDeclared : List Pattern → Bool → Command → Type 0
IsDeclared writes kills (Create e) = Unit {0}
IsDeclared writes kills (Add e i) = IsTrue (matches_one writes i)
IsDeclared writes kills (Remove e i) = IsTrue (matches_one writes i)
IsDeclared writes kills (Set e i v) = IsTrue (matches_one writes i)
IsDeclared writes kills (Clear e) = IsTrue kills
IsDeclared writes kills (Rename e name) = Unit {0}
IsDeclared writes kills (Delete e) = IsTrue kills
IsDeclared writes kills (DeleteWith i) = IsTrue kills
IsDeclared writes kills (RemoveAll i) = IsTrue (matches_one writes i)

-- a system that keeps the law: its query asks for something that is there, and it records what it declares
pub record IsLawfulSystem (s : SystemModel) : Type 0 where
  pub positive : HasPositive s.slots
  pub declared : (row : ValuedRow) (draws : List Entity) → IsTrue (s.takes row draws) → AllByRecursion (IsDeclared s.writes s.kills) (s.records row draws)
