-- What commands mean.
use Rattle.std.specs.Prelude.{option_map, string_bytes}
use Rattle.eco_ids.specs.Run as run
use Rattle.eco_stages.specs.declared.command.Command.{Command}
use Rattle.eco_stages.specs.declared.command.Command.TheVariants.{Create, Add, Remove, Set, Clear, Rename, Delete, DeleteWith, RemoveAll}

-- the command of the definitions: a name is its bytes
abbrev pub command_of : Command → run.Command
command_of (Create e) = run.Create e
command_of (Add e i) = run.Add e i
command_of (Remove e i) = run.Remove e i
command_of (Set e i v) = run.Set e i v
command_of (Clear e) = run.Clear e
command_of (Rename e name) = run.Rename e (option_map string_bytes name)
command_of (Delete e) = run.Delete e
command_of (DeleteWith i) = run.DeleteWith i
command_of (RemoveAll i) = run.RemoveAll i
