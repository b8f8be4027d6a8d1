-- The atoms that a text puts down, and the slots that they make.
use Rattle.std.specs.Prelude.{◌≡◌, ◌<◌, ◌≤◌, Bool, true, false, ◌&&◌, List, [], ◌∷◌, ◌++◌, length, Option, Some, None, option_and_then, nat_lt, if◌then◌else◌}
use Rattle.eco_scan.specs.Grammar.{WrittenAtom, WrittenBody, absent, optional, alternatives, WrittenSlot, count_atoms}
use Rattle.eco_scan.specs.Views.{atom_view}
use Rattle.eco_scan.specs.declared.point.Head.{Head}
use Rattle.eco_scan.specs.declared.point.Head.TheVariants.{Plain, Not, Optional, Alone}
use Rattle.eco_scan.specs.declared.point.Mark.{Mark}
use Rattle.eco_scan.specs.declared.point.Mark.TheVariants as marks

abbrev pub with_mark : List Mark → Mark → Option (List Mark)
with_mark ms m = if nat_lt (length ms) 32 then Some (ms ++ m ∷ []) else None

-- one atom more; none, where they are too many
abbrev pub put_down : Option (List Mark) → Mark → Option (List Mark)
put_down held marks.Same = held
put_down held marks.Begin = held
put_down held m = option_and_then (λ ms. with_mark ms m) held

-- what a slot asks: its last atom behind some alternatives
abbrev pub body_of : Head → List WrittenAtom → WrittenAtom → WrittenBody
body_of Plain xs x = alternatives (xs ++ x ∷ [])
body_of Not xs x = absent x
body_of Optional xs x = optional x
body_of Alone xs x = alternatives (xs ++ x ∷ [])

-- the slots that the atoms make, with some alternatives before them
abbrev pub slots_from : List WrittenAtom → List Mark → List WrittenSlot
slots_from xs [] = []
slots_from xs (marks.Same ∷ ms) = slots_from xs ms
slots_from xs (marks.Begin ∷ ms) = slots_from [] ms
slots_from xs (marks.Other a x ∷ ms) = slots_from (xs ++ atom_view x ∷ []) ms
slots_from xs (marks.Slot a h x ∷ ms) =
    (record { access = a; body = body_of h xs (atom_view x) }) ∷ slots_from [] ms

-- before what stands behind no `||`
abbrev pub is_bare_head : Head → Bool
is_bare_head Plain = false
is_bare_head Not = true
is_bare_head Optional = true
is_bare_head Alone = true

-- whether alternatives stand before what comes behind the atoms, if each alternative leads to a slot of
-- alternatives
abbrev pub grouping : Bool → List Mark → Option Bool
grouping g [] = Some g
grouping g (marks.Same ∷ ms) = None
grouping g (marks.Begin ∷ ms) = None
grouping g (marks.Other a x ∷ ms) = grouping true ms
grouping g (marks.Slot a h x ∷ ms) = if g && is_bare_head h then None else grouping false ms

abbrev pub some_of : List WrittenAtom → Bool
some_of [] = false
some_of (x ∷ xs) = true

-- atoms that make up whole slots
abbrev pub AreWhole : List Mark → Type 0
AreWhole ms = grouping false ms ≡ Some false

-- what a reader holds of the slots: the atoms that make them, or that they are too many
abbrev pub HoldsSlots : Option (List Mark) → List WrittenSlot → Type 0
HoldsSlots None slots = 32 < count_atoms slots
HoldsSlots (Some ms) slots = (slots ≡ slots_from [] ms) × AreWhole ms × (count_atoms slots ≤ 32)
