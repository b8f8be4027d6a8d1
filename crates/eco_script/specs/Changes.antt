-- Changes that were read, as commands.
use Rattle.std.specs.Prelude.{option_map}
use Rattle.eco_ids.specs.Run as run
use Rattle.eco_script.specs.declared.changes.Change.{Change}
use Rattle.eco_script.specs.declared.changes.Change.TheVariants.{Add, Remove, Set, Clear, Rename, Delete, DeleteWith, RemoveAll}

-- the command that is the same change
abbrev pub named_command : Change → run.Command
named_command (Add e i) = run.Add e i
named_command (Remove e i) = run.Remove e i
named_command (Set e i v) = run.Set e i v
named_command (Clear e) = run.Clear e
named_command (Rename e name) = run.Rename e (option_map (λ s. s.now) name)
named_command (Delete e) = run.Delete e
named_command (DeleteWith i) = run.DeleteWith i
named_command (RemoveAll i) = run.RemoveAll i
