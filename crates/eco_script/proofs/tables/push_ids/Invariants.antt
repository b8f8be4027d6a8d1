use Rattle.eco_script.proofs.PrintedCommon.{◌≡◌, ◌++◌, take, flat_map, string_bytes, id_line}
use Rattle.eco_script.proofs.tables.push_ids.Given as goal

-- the lines of the ids so far
abbrev pub invariant-loop-id : goal.invariant-loop-id
invariant-loop-id l =
    string_bytes l.text ≡ string_bytes l.fn.text ++ flat_map (id_line l.world) (take l.id-index l.ids)
