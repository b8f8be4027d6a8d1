use Rattle.eco_script.proofs.Common.{◌≡◌, ◌++◌, take, flat_map, string_bytes, line_of}
use Rattle.eco_script.proofs.reply.push_entity_lines.Given as goal

-- the lines of the entities so far
abbrev pub invariant-loop-entity : goal.invariant-loop-entity
invariant-loop-entity l =
    string_bytes l.text ≡ string_bytes l.fn.text ++ flat_map (line_of l.world) (take l.entity-index l.entities)
