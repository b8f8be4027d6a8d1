use Rattle.eco_stages.proofs.Common.{◌≡◌, take}
use Rattle.std.specs.Prelude.{map, option_map, string_bytes}
use Rattle.eco_stages.proofs.kept.names_copied.Given as goal

abbrev pub invariant-loop-name : goal.invariant-loop-name
invariant-loop-name l =
    map (option_map string_bytes) l.copies.items ≡ map (option_map string_bytes) (take l.name-index l.names)
