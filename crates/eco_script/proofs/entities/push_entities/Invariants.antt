use Rattle.eco_script.proofs.PrintedCommon.{◌≡◌, ◌++◌, take, flat_map, string_bytes, entity_lines}
use Rattle.eco_script.proofs.entities.push_entities.Given as goal

-- the lines of the entities so far
abbrev pub invariant-loop-entity : goal.invariant-loop-entity
invariant-loop-entity l =
    string_bytes l.text ≡ string_bytes l.fn.text ++ flat_map (entity_lines l.world) (take l.entity-index l.entities)
