-- Changes of a world and the commands of a stage, as a script writes them.
use Rattle.std.specs.Prelude.{ℕ, List, Option}
use Rattle.eco_ids.specs.declared.value.Value.{Value}

-- what a step and a command may both ask for, with its texts as they are written: an entity by its name or handle, an id likewise or
-- a pair, or a name
pub data WrittenChange : Type 0 where
  add : List ℕ → List ℕ → WrittenChange
  remove : List ℕ → List ℕ → WrittenChange
  set : List ℕ → List ℕ → Value → WrittenChange
  clear : List ℕ → WrittenChange
  rename : List ℕ → Option (List ℕ) → WrittenChange
  delete : List ℕ → WrittenChange
  delete_with : List ℕ → WrittenChange
  remove_all : List ℕ → WrittenChange

-- what a stage may hold: a handle that is to live, or a change
pub data WrittenCommand : Type 0 where
  create : List ℕ → WrittenCommand
  change : WrittenChange → WrittenCommand
