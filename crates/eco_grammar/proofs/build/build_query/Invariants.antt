use Rattle.eco_grammar.proofs.Common.{◌≡◌, List, map, drop, WrittenAtom, slot_view, some_of}
use Rattle.eco_grammar.proofs.Built.{Standing}
use Rattle.eco_grammar.proofs.Kept.{InRange}
use Rattle.eco_grammar.proofs.build.build_query.Given as goal

-- the slots and the alternatives so far are made, and are in range
abbrev pub invariant-loop-mark : goal.invariant-loop-mark
invariant-loop-mark g l = (xs : List WrittenAtom) × (some_of xs ≡ l.grouped)
    × Standing (g.N.Names.entity_named l.names) l.marks xs (map slot_view l.slots.items) l.group.items (drop l.mark-index l.marks)
    × InRange (map slot_view l.slots.items) l.group.items
