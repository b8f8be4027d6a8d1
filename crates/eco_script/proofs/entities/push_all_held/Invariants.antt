use Rattle.eco_script.proofs.PrintedCommon.{◌≡◌, ◌++◌, take, flat_map, string_bytes, held_line}
use Rattle.eco_script.proofs.entities.push_all_held.Given as goal

-- the lines of the ids so far
abbrev pub invariant-loop-id : goal.invariant-loop-id
invariant-loop-id l =
    string_bytes l.text ≡ string_bytes l.fn.text ++ flat_map (held_line l.world l.entity) (take l.id-index l.ids)
