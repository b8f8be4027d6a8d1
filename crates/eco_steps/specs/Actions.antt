-- The actions of a system, as a script writes them.
use Rattle.std.specs.Prelude.{ℕ, List, Option}
use Rattle.eco_ids.specs.declared.value.Value.{Value}

-- what a system may do with a row, with its ids as they are written, and its slots by their numbers, counted from 0
pub data WrittenAction : Type 0 where
  add : List ℕ → WrittenAction
  remove : List ℕ → WrittenAction
  put : ℕ → Value → WrittenAction
  sum : ℕ → ℕ → WrittenAction
  kill : WrittenAction
  spawn : Option (List ℕ) → WrittenAction
