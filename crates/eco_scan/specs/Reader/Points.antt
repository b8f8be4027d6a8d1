-- The reader's points as those of the machine, for the slots and the alternatives that were read before.
use Rattle.std.specs.Prelude.{◌≡◌, Bool, true, false, not, if◌then◌else◌, ℕ, ◌<◌, List, [], ◌+◌, Option, Some, None, option_map, slice_index, slice_range}
use Rattle.eco_scan.specs.Grammar as grammar
use Rattle.eco_scan.specs.Views.{part_view, atom_view}
use Rattle.eco_scan.specs.Marks.{is_bare_head}
use Rattle.eco_scan.specs.Reader.Machine as machine
use Rattle.eco_query.specs.declared.access.Access.{Access}
use Rattle.eco_query.specs.declared.access.Access.TheVariants.{InOut}
use Rattle.eco_scan.specs.declared.point.Head.{Head}
use Rattle.eco_scan.specs.declared.point.Head.TheVariants.{Plain, Alone}
use Rattle.eco_scan.specs.declared.point.Role.{Role}
use Rattle.eco_scan.specs.declared.point.Role.TheVariants.{Whole, First, Second, Sole}
use Rattle.eco_scan.specs.declared.point.Spot.{Spot}
use Rattle.eco_scan.specs.declared.point.Spot.TheVariants as spots
use Rattle.eco_scan.specs.declared.point.Point.{Point}
use Rattle.eco_scan.specs.declared.point.Point.TheVariants as points
use Rattle.eco_scan.specs.declared.point.Mark.{Mark}
use Rattle.eco_scan.specs.declared.point.Mark.TheVariants as marks
use Rattle.eco_scan.specs.declared.point.Step.{Step}

-- the slots and the alternatives that were read before
pub record Draft : Type 0 where
  pub slots : List grammar.WrittenSlot
  pub others : List grammar.WrittenAtom

abbrev pub before_view : Draft → Access → Head → machine.Before
before_view d a h = record { slots = d.slots; access = a; head = h; others = d.others }

abbrev pub role_view : Draft → Role → machine.Role
role_view d (Whole a h) = machine.whole (before_view d a h)
role_view d (First a h) = machine.first (before_view d a h)
role_view d (Second a h p) = machine.second (before_view d a h) (part_view p)
role_view d Sole = machine.sole (before_view d InOut Alone)

abbrev pub spot_view : Draft → Spot → machine.Spot
spot_view d spots.Slot = machine.slot d.slots
spot_view d spots.Word = machine.word d.slots
spot_view d (spots.Shut a) = machine.shut d.slots a
spot_view d (spots.Body a) = machine.body d.slots a
spot_view d (spots.Atom a h) = machine.atom (before_view d a h)
spot_view d (spots.Part o) = machine.part (role_view d o)
spot_view d (spots.Behind o p) = machine.behind (role_view d o) (part_view p)
spot_view d (spots.After a h x) = machine.after (before_view d a h) (atom_view x)

-- a spot where nothing was read before
abbrev pub start_view : Spot → machine.Point
start_view s = machine.at (spot_view (record { slots = []; others = [] }) s)

-- the point, once the bytes before n were read
abbrev pub point_view : List ℕ → ℕ → Draft → Point → machine.Point
point_view text n d (points.At s) = machine.at (spot_view d s)
point_view text n d (points.Letters from) = machine.letters d.slots (slice_range text from n)
point_view text n d (points.Bar a x) = machine.bar (before_view d a Plain) (atom_view x)
point_view text n d (points.Name o from) = machine.name_of (role_view d o) from (slice_range text from n)
point_view text n d (points.Hash o from) = machine.hash (role_view d o) from
point_view text n d (points.Index o from i) = machine.index (role_view d o) from i
point_view text n d (points.Dot o from i) = machine.dot (role_view d o) from i
point_view text n d (points.Generation o from i g) = machine.generation (role_view d o) from i g

-- the draft, once an atom was put down
abbrev pub marked : Mark → Draft → Draft
marked marks.Same d = d
marked marks.Begin d = record { slots = d.slots; others = [] }
marked (marks.Other a x) d =
    record { slots = d.slots; others = (machine.others_with (before_view d a Plain) (atom_view x)).others }
marked (marks.Slot a h x) d =
    record { slots = machine.slots_with h (before_view d a h) (atom_view x); others = [] }

abbrev pub point_of_step : List ℕ → ℕ → Draft → Step → machine.Point
point_of_step text n d s = point_view text n (marked s.mark d) s.point

-- the step is the machine's at the point, whatever was read before
abbrev pub IsMove : List ℕ → ℕ → Point → Option Step → Type 0
IsMove text n p s = (d : Draft)
    → option_map (point_of_step text (n + 1) d) s ≡ machine.move n (point_view text n d p) (slice_index text n)

-- a point, or something else
abbrev pub or_point : List ℕ → ℕ → Draft → Option Point → Option machine.Point → Option machine.Point
or_point text n d (Some p) y = Some (point_view text n d p)
or_point text n d None y = y

-- a token begins before the place
abbrev pub IsBegunAt : ℕ → Point → Type 0
IsBegunAt n (points.At s) = Unit {0}
IsBegunAt n (points.Letters from) = from < n
IsBegunAt n (points.Bar a x) = Unit {0}
IsBegunAt n (points.Name o from) = from < n
IsBegunAt n (points.Hash o from) = Unit {0}
IsBegunAt n (points.Index o from i) = Unit {0}
IsBegunAt n (points.Dot o from i) = Unit {0}
IsBegunAt n (points.Generation o from i g) = Unit {0}

abbrev pub is_bare_role : Role → Bool
is_bare_role (Whole a h) = is_bare_head h
is_bare_role (First a h) = is_bare_head h
is_bare_role (Second a h p) = is_bare_head h
is_bare_role Sole = true

abbrev pub is_bare_spot : Spot → Bool
is_bare_spot spots.Slot = true
is_bare_spot spots.Word = true
is_bare_spot (spots.Shut a) = true
is_bare_spot (spots.Body a) = true
is_bare_spot (spots.Atom a h) = is_bare_head h
is_bare_spot (spots.Part o) = is_bare_role o
is_bare_spot (spots.Behind o p) = is_bare_role o
is_bare_spot (spots.After a h x) = is_bare_head h

-- a body, an atom or a part is wanted there
abbrev pub is_beginning : Spot → Bool
is_beginning (spots.Body a) = true
is_beginning (spots.Atom a h) = true
is_beginning (spots.Part o) = true
is_beginning _ = false

-- no alternatives were put down in the slot that is read there
abbrev pub is_bare : Point → Bool
is_bare (points.At s) = is_bare_spot s
is_bare (points.Letters from) = true
is_bare (points.Bar a x) = false
is_bare (points.Name o from) = is_bare_role o
is_bare (points.Hash o from) = is_bare_role o
is_bare (points.Index o from i) = is_bare_role o
is_bare (points.Dot o from i) = is_bare_role o
is_bare (points.Generation o from i g) = is_bare_role o

-- alternatives are put down in a slot of alternatives alone, and go with its last atom
abbrev pub keeps_slots : Bool → Mark → Bool → Bool
keeps_slots bare marks.Same next = if next then bare else true
keeps_slots bare marks.Begin next = bare
keeps_slots bare (marks.Other a x) next = not next
keeps_slots bare (marks.Slot a h x) next = if is_bare_head h then bare else true

abbrev pub KeepsSlots : Bool → Step → Type 0
KeepsSlots bare s = keeps_slots bare s.mark (is_bare s.point) ≡ true

-- the same of the last atom of all
abbrev pub KeepsLast : Bool → Head → Type 0
KeepsLast bare h = (if is_bare_head h then bare else true) ≡ true
