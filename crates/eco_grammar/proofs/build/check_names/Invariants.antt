use Rattle.eco_grammar.proofs.Common.{◌≡◌, List, drop, Id, WrittenAtom, QuerySlot, some_of}
use Rattle.eco_grammar.proofs.Built.{Standing}
use Rattle.eco_grammar.proofs.build.check_names.Given as goal

-- all names so far are known
abbrev pub invariant-loop-mark : goal.invariant-loop-mark
invariant-loop-mark g l = (xs : List WrittenAtom) × (ys : List QuerySlot) × (group : List Id) × (some_of xs ≡ l.grouped)
    × Standing (g.N.Names.entity_named l.names) l.marks xs ys group (drop l.mark-index l.marks)
