use Rattle.eco_script.proofs.PrintedCommon.{◌≡◌, ◌++◌, take, flat_map, string_bytes, table_lines, listed_of}
use Rattle.eco_script.proofs.tables.push_each.Given as goal

-- the lines of the tables so far
abbrev pub invariant-loop-table : goal.invariant-loop-table
invariant-loop-table l =
    string_bytes l.text ≡ string_bytes l.fn.text ++ flat_map (λ t. table_lines l.world (listed_of t)) (take l.table-index l.tables)
