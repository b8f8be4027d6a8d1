-- What stands in a text as the reader has it, as that of the grammar.
use Rattle.eco_scan.specs.Tokens as token
use Rattle.eco_scan.specs.Grammar as grammar
use Rattle.eco_scan.specs.declared.written.Reference.{Reference}
use Rattle.eco_scan.specs.declared.written.Reference.TheVariants.{Name, Handle}
use Rattle.eco_scan.specs.declared.written.WrittenPart.{WrittenPart}
use Rattle.eco_scan.specs.declared.written.WrittenPart.TheVariants.{Named, Each, Any}
use Rattle.eco_scan.specs.declared.written.WrittenAtom.{WrittenAtom}
use Rattle.eco_scan.specs.declared.written.WrittenAtom.TheVariants.{Single, Pair}

abbrev pub reference_view : Reference → token.Reference
reference_view (Name n) = token.name n.now
reference_view (Handle i g) = token.handle i g

abbrev pub part_view : WrittenPart → grammar.WrittenPart
part_view (Named from r) = grammar.named from (reference_view r)
part_view Each = grammar.each
part_view Any = grammar.any

abbrev pub atom_view : WrittenAtom → grammar.WrittenAtom
atom_view (Single p) = grammar.single (part_view p)
atom_view (Pair p q) = grammar.pair (part_view p) (part_view q)
