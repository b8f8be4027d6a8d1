-- What keeps to the tokens of texts. Contracts of private functions alone speak of it.
use Rattle.std.specs.Prelude.{ℕ, List, [], ◌∷◌}
use Rattle.eco_scan.specs.Tokens.{Reference, IsToken}
use Rattle.eco_scan.specs.Grammar.{WrittenPart, named, each, any, WrittenAtom, single, pair}
use Rattle.eco_scan.specs.Views.{atom_view}
use Rattle.eco_scan.specs.declared.point.Mark.{Mark}
use Rattle.eco_scan.specs.declared.point.Mark.TheVariants as marks

-- what a reference that is spelled keeps to: its name is a name, its numbers are in range
abbrev pub IsProper : Reference → Type 0
IsProper r = (token : List ℕ) × IsToken token r

abbrev pub IsProperPart : WrittenPart → Type 0
IsProperPart (named at r) = IsProper r
IsProperPart each = Unit {0}
IsProperPart any = Unit {0}

abbrev pub IsProperAtom : WrittenAtom → Type 0
IsProperAtom (single p) = IsProperPart p
IsProperAtom (pair p q) = IsProperPart p × IsProperPart q

-- the names and numbers of an atom that was put down are proper
abbrev pub IsProperMark : Mark → Type 0
IsProperMark marks.Same = Unit {0}
IsProperMark marks.Begin = Unit {0}
IsProperMark (marks.Other a x) = IsProperAtom (atom_view x)
IsProperMark (marks.Slot a h x) = IsProperAtom (atom_view x)

abbrev pub AreProperMarks : List Mark → Type 0
AreProperMarks [] = Unit {0}
AreProperMarks (m ∷ ms) = IsProperMark m × AreProperMarks ms
