-- A machine that reads a text byte by byte, and stops at the first byte that no sentence has there.
use Rattle.std.specs.Prelude.{◌≡◌, ◌⊎◌, ◌<◌, take, slice_index, ℕ, ◌+◌, ◌-◌, ◌*◌, ◌==◌, ◌||◌, ◌&&◌, Bool, true, false, not, List, [], ◌∷◌, ◌++◌, length}
use Rattle.std.specs.Prelude.{codes, Option, Some, None, option_map, option_and_then, nat_lt, nat_le, if◌then◌else◌}
use Rattle.std.specs.Str.{bytes_eq}
use Rattle.eco_ids.specs.Names.{may_begin, may_follow}
use Rattle.eco_scan.specs.Tokens.{name, handle, is_white, is_digit}
use Rattle.eco_scan.specs.Grammar.{WrittenPart, named, each, any, WrittenAtom, single, pair, WrittenSlot}
use Rattle.eco_query.specs.declared.access.Access.{Access}
use Rattle.eco_query.specs.declared.access.Access.TheVariants.{In, Out, InOut, InOutNone}
use Rattle.eco_scan.specs.Marks.{body_of}
use Rattle.eco_scan.specs.declared.point.Head.{Head}
use Rattle.eco_scan.specs.declared.point.Head.TheVariants.{Plain, Not, Optional, Alone}

-- a number with one more digit, if it was not 0 and stays within a bound
abbrev pub with_digit : ℕ → ℕ → ℕ → Option ℕ
with_digit most n b = if nat_lt 0 n && nat_le (10 * n + (b - 48)) most then Some (10 * n + (b - 48)) else None

-- `_` alone
abbrev pub is_lone : List ℕ → Bool
is_lone n = bytes_eq n (codes "_")

-- what was read before an atom: the slots before, and of its slot the access, the head and the alternatives
pub record Before : Type 0 where
  pub slots : List WrittenSlot
  pub access : Access
  pub head : Head
  pub others : List WrittenAtom

-- which part it is: an atom of its own, the first or the second of a pair, or a reference that is all of
-- the text
pub data Role : Type 0 where
  whole : Before → Role
  first : Before → Role
  second : Before → WrittenPart → Role
  sole : Before → Role

abbrev pub takes_wildcard : Role → Bool
takes_wildcard (whole c) = true
takes_wildcard (first c) = true
takes_wildcard (second c p) = true
takes_wildcard (sole c) = false

-- what is wanted between tokens, where white space may come
pub data Spot : Type 0 where
  slot : List WrittenSlot → Spot
  word : List WrittenSlot → Spot
  shut : List WrittenSlot → Access → Spot
  body : List WrittenSlot → Access → Spot
  atom : Before → Spot
  part : Role → Spot
  behind : Role → WrittenPart → Spot
  after : Before → WrittenAtom → Spot

-- between tokens, or inside of one: some of an access word, one bar, some of a name that begins there, some
-- of a handle
pub data Point : Type 0 where
  at : Spot → Point
  letters : List WrittenSlot → List ℕ → Point
  bar : Before → WrittenAtom → Point
  name_of : Role → ℕ → List ℕ → Point
  hash : Role → ℕ → Point
  index : Role → ℕ → ℕ → Point
  dot : Role → ℕ → ℕ → Point
  generation : Role → ℕ → ℕ → ℕ → Point

-- the slots, with the one that the atom ends
abbrev pub slots_with : Head → Before → WrittenAtom → List WrittenSlot
slots_with h c x = c.slots ++ (record { access = c.access; body = body_of h c.others x }) ∷ []

abbrev pub others_with : Before → WrittenAtom → Before
others_with c x = record { slots = c.slots; access = c.access; head = Plain; others = c.others ++ x ∷ [] }

abbrev pub begun : List WrittenSlot → Access → Head → Before
begun ss a h = record { slots = ss; access = a; head = h; others = [] }

-- what a word names
abbrev pub part_of_word : ℕ → List ℕ → WrittenPart
part_of_word from n = if is_lone n then any else named from (name n)

abbrev pub is_prefix : List ℕ → List ℕ → Bool
is_prefix [] ys = true
is_prefix (x ∷ xs) [] = false
is_prefix (x ∷ xs) (y ∷ ys) = if x == y then is_prefix xs ys else false

abbrev pub is_front : List ℕ → Bool
is_front n = is_prefix n (codes "inout") || is_prefix n (codes "out") || is_prefix n (codes "none")

abbrev pub access_of : List ℕ → Option Access
access_of n =
    if bytes_eq n (codes "in") then Some In
    else (if bytes_eq n (codes "out") then Some Out
    else (if bytes_eq n (codes "inout") then Some InOut
    else (if bytes_eq n (codes "none") then Some InOutNone else None)))

-- a part, or something else
abbrev pub part_or : ℕ → Role → ℕ → Option Point → Option Point
part_or n o b y =
    if may_begin b then Some (name_of o n (b ∷ []))
    else (if b == 35 then Some (hash o n)
    else (if (b == 42) && takes_wildcard o then Some (at (behind o each)) else y))

abbrev pub atom_or : ℕ → Before → ℕ → Option Point → Option Point
atom_or n c b y = part_or n (whole c) b (if b == 40 then Some (at (part (first c))) else y)

abbrev pub body_or : ℕ → List WrittenSlot → Access → ℕ → Option Point → Option Point
body_or n ss a b y =
    atom_or n (begun ss a Plain) b
    (if b == 33 then Some (at (atom (begun ss a Not)))
    else (if b == 63 then Some (at (atom (begun ss a Optional))) else y))

abbrev pub comma : Head → Before → WrittenAtom → ℕ → Option Point
comma h c x b = if b == 44 then Some (at (slot (slots_with h c x))) else None

abbrev pub behind_atom : Head → Before → WrittenAtom → ℕ → Option Point
behind_atom Plain c x b = if b == 124 then Some (bar c x) else comma Plain c x b
behind_atom Not c x b = comma Not c x b
behind_atom Optional c x b = comma Optional c x b
behind_atom Alone c x b = None

-- a byte that is no white space
abbrev pub enter : ℕ → Spot → ℕ → Option Point
enter n (slot ss) b = body_or n ss InOut b (if b == 91 then Some (at (word ss)) else None)
enter n (word ss) b = if is_front (b ∷ []) then Some (letters ss (b ∷ [])) else None
enter n (shut ss a) b = if b == 93 then Some (at (body ss a)) else None
enter n (body ss a) b = body_or n ss a b None
enter n (atom c) b = atom_or n c b None
enter n (part o) b = part_or n o b None
enter n (behind (whole c) p) b = behind_atom c.head c (single p) b
enter n (behind (first c) p) b = if b == 44 then Some (at (part (second c p))) else None
enter n (behind (second c p) q) b = if b == 41 then Some (at (after c (pair p q))) else None
enter n (behind (sole c) p) b = None
enter n (after c x) b = behind_atom c.head c x b

abbrev pub move_at : ℕ → Spot → ℕ → Option Point
move_at n s b = if is_white b then Some (at s) else enter n s b

-- the byte at n
abbrev pub move : ℕ → Point → ℕ → Option Point
move n (at s) b = move_at n s b
move n (letters ss m) b =
    if is_front (m ++ b ∷ []) then Some (letters ss (m ++ b ∷ []))
    else option_and_then (λ a. move_at n (shut ss a) b) (access_of m)
move n (bar c x) b = if b == 124 then Some (at (atom (others_with c x))) else None
move n (name_of o from m) b =
    if may_follow b then (if nat_lt (length m) 63 then Some (name_of o from (m ++ b ∷ [])) else None)
    else (if is_lone m && not (takes_wildcard o) then None else move_at n (behind o (part_of_word from m)) b)
move n (hash o from) b = if is_digit b then Some (index o from (b - 48)) else None
move n (index o from i) b =
    if is_digit b then option_and_then (λ j. Some (index o from j)) (with_digit 4294967295 i b)
    else (if b == 46 then Some (dot o from i) else None)
move n (dot o from i) b = if is_digit b then Some (generation o from i (b - 48)) else None
move n (generation o from i g) b =
    if is_digit b then option_and_then (λ h. Some (generation o from i h)) (with_digit 65535 g b)
    else move_at n (behind o (named from (handle i g))) b

abbrev pub end_at : Spot → Option (List WrittenSlot)
end_at (slot ss) = None
end_at (word ss) = None
end_at (shut ss a) = None
end_at (body ss a) = None
end_at (atom c) = None
end_at (part o) = None
end_at (behind (whole c) p) = Some (slots_with c.head c (single p))
end_at (behind (first c) p) = None
end_at (behind (second c p) q) = None
end_at (behind (sole c) (named from r)) = Some (slots_with c.head c (single (named from r)))
end_at (behind (sole c) each) = None
end_at (behind (sole c) any) = None
end_at (after c x) = Some (slots_with c.head c x)

-- the slots, where the text ends there
abbrev pub end : Point → Option (List WrittenSlot)
end (at s) = end_at s
end (letters ss m) = None
end (bar c x) = None
end (name_of o from m) = end_at (behind o (part_of_word from m))
end (hash o from) = None
end (index o from i) = None
end (dot o from i) = None
end (generation o from i g) = end_at (behind o (named from (handle i g)))

-- the place and the point there, with a byte more
abbrev pub advance : (ℕ × Point) → ℕ → Option (ℕ × Point)
advance (n, p) b = option_map (λ q. (n + 1, q)) (move n p b)

-- a machine over some bytes, one after the other
abbrev pub runs : {S : Type 0} → (S → ℕ → Option S) → S → List ℕ → Option S
runs step s [] = Some s
runs step s (b ∷ bs) = option_and_then (λ q. runs step q bs) (step s b)

-- where a query begins
abbrev pub query_start : Point
query_start = at (slot [])

-- where an id begins: an atom behind which nothing may come
abbrev pub id_start : Point
id_start = at (atom (begun [] InOut Alone))

-- where a reference begins
abbrev pub ref_start : Point
ref_start = at (part (sole (begun [] InOut Alone)))

-- the machine, which began at `start`, is there once it has read n bytes
abbrev pub Reached : Point → List ℕ → ℕ → Point → Type 0
Reached start text n q = runs advance (0, start) (take n text) ≡ Some (n, q)

-- the machine goes no further than this place: it has no move at the byte there, or the text ends too early
abbrev pub Stops : Point → List ℕ → ℕ → Type 0
Stops start text n = (q : Point) × (runs advance (0, start) (take n text) ≡ Some (n, q))
    × (((n < length text) × (move n q (slice_index text n) ≡ None)) ⊎ ((n ≡ length text) × (end q ≡ None)))

-- the machine reads all of the text, and its end completes this atom
abbrev pub EndsWith : Point → List ℕ → WrittenAtom → Type 0
EndsWith start text x = (q : Point) × (c : Before)
    × (runs advance (0, start) text ≡ Some (length text, q)) × (end q ≡ Some (slots_with c.head c x))
