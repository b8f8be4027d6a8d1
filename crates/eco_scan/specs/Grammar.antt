-- The grammar of references, ids and queries, by cases. A relation of u and v says what stands in the text
-- from where u is left up to where v is left.
use Rattle.std.specs.Prelude.{◌≡◌, ◌⊎◌, ℕ, ◌+◌, Bool, true, false, ◌||◌, List, [], ◌∷◌, ◌++◌, codes, length}
use Rattle.eco_scan.specs.Tokens.{Reference, IsWhite, IsToken}
use Rattle.eco_query.specs.declared.access.Access.{Access}
use Rattle.eco_query.specs.declared.access.Access.TheVariants.{In, Out, InOut, InOutNone}

-- a part of an atom as it is written: a name or a handle with the byte place where it begins, `*` or `_`
pub data WrittenPart : Type 0 where
  named : ℕ → Reference → WrittenPart
  each : WrittenPart
  any : WrittenPart

-- an id as it is written: one part, or a pair of two
pub data WrittenAtom : Type 0 where
  single : WrittenPart → WrittenAtom
  pair : WrittenPart → WrittenPart → WrittenAtom

-- what a slot asks as it is written: that an atom is absent, that it may be there, or that one of some
-- alternatives is there
pub data WrittenBody : Type 0 where
  absent : WrittenAtom → WrittenBody
  optional : WrittenAtom → WrittenBody
  alternatives : List WrittenAtom → WrittenBody

pub record WrittenSlot : Type 0 where
  pub access : Access
  pub body : WrittenBody

-- a token and the white space behind it
abbrev pub IsTok : List ℕ → List ℕ → List ℕ → Type 0
IsTok token u v = (white : List ℕ) × IsWhite white × (u ≡ token ++ (white ++ v))

-- size is the length of the whole text: from it comes the place where a name begins
abbrev pub IsPart : ℕ → List ℕ → List ℕ → WrittenPart → Type 0
IsPart size u v (named at r) = (token : List ℕ) × IsToken token r × IsTok token u v × (at + length u ≡ size)
IsPart size u v each = IsTok (codes "*") u v
IsPart size u v any = IsTok (codes "_") u v

abbrev pub IsAtom : ℕ → List ℕ → List ℕ → WrittenAtom → Type 0
IsAtom size u v (single p) = IsPart size u v p
IsAtom size u v (pair p q) = (a : List ℕ) × (b : List ℕ) × (c : List ℕ) × (d : List ℕ)
    × IsTok (codes "(") u a × IsPart size a b p
    × IsTok (codes ",") b c × IsPart size c d q × IsTok (codes ")") d v

-- more atoms, each behind `||`
abbrev pub AreMore : ℕ → List ℕ → List ℕ → List WrittenAtom → Type 0
AreMore size u v [] = u ≡ v
AreMore size u v (x ∷ xs) = (a : List ℕ) × (b : List ℕ)
    × IsTok (codes "||") u a × IsAtom size a b x × AreMore size b v xs

-- `!` and an atom, `?` and an atom, or one atom and more
abbrev pub IsBody : ℕ → List ℕ → List ℕ → WrittenBody → Type 0
IsBody size u v (absent x) = (a : List ℕ) × IsTok (codes "!") u a × IsAtom size a v x
IsBody size u v (optional x) = (a : List ℕ) × IsTok (codes "?") u a × IsAtom size a v x
IsBody size u v (alternatives []) = ⊥
IsBody size u v (alternatives (x ∷ xs)) = (a : List ℕ) × IsAtom size u a x × AreMore size a v xs

abbrev pub access_word : Access → List ℕ
access_word In = codes "in"
access_word Out = codes "out"
access_word InOut = codes "inout"
access_word InOutNone = codes "none"

-- a word in brackets; nothing stands for `[inout]`
abbrev pub IsAccess : List ℕ → List ℕ → Access → Type 0
IsAccess u v access =
    ((u ≡ v) × (access ≡ InOut))
    ⊎ ((a : List ℕ) × (b : List ℕ)
    × IsTok (codes "[") u a × IsTok (access_word access) a b × IsTok (codes "]") b v)

abbrev pub IsSlot : ℕ → List ℕ → List ℕ → WrittenSlot → Type 0
IsSlot size u v slot = (a : List ℕ) × IsAccess u a slot.access × IsBody size a v slot.body

-- more slots, each behind a comma, up to the end
abbrev pub AreMoreSlots : ℕ → List ℕ → List WrittenSlot → Type 0
AreMoreSlots size u [] = u ≡ []
AreMoreSlots size u (s ∷ ss) = (a : List ℕ) × (b : List ℕ)
    × IsTok (codes ",") u a × IsSlot size a b s × AreMoreSlots size b ss

-- white space, then a slot, then more
abbrev pub SpellsSlots : ℕ → List ℕ → List WrittenSlot → Type 0
SpellsSlots size text [] = ⊥
SpellsSlots size text (s ∷ ss) = (a : List ℕ) × (b : List ℕ)
    × IsTok [] text a × IsSlot size a b s × AreMoreSlots size b ss

-- the text spells these slots
abbrev pub SpellsQuery : List ℕ → List WrittenSlot → Type 0
SpellsQuery text slots = SpellsSlots (length text) text slots

-- the text spells this id: one atom, with white space round it
abbrev pub SpellsId : List ℕ → WrittenAtom → Type 0
SpellsId text x = (a : List ℕ) × IsTok [] text a × IsAtom (length text) a [] x

-- what names an entity in a text, and where it begins there
pub record PlacedReference : Type 0 where
  pub at : ℕ
  pub reference : Reference

-- the text spells this reference: a name or a handle, with white space round it
abbrev pub SpellsRef : List ℕ → PlacedReference → Type 0
SpellsRef text r = SpellsId text (single (named r.at r.reference))

-- ---- what is told of what is written

abbrev pub is_wildcard : WrittenPart → Bool
is_wildcard (named at r) = false
is_wildcard each = true
is_wildcard any = true

abbrev pub has_wildcard : WrittenAtom → Bool
has_wildcard (single p) = is_wildcard p
has_wildcard (pair p q) = is_wildcard p || is_wildcard q

-- a wildcard that is all of a single id
abbrev pub is_lone_wildcard : WrittenAtom → Bool
is_lone_wildcard (single p) = is_wildcard p
is_lone_wildcard (pair p q) = false

-- the atoms of a body
abbrev pub atoms_of : WrittenBody → List WrittenAtom
atoms_of (absent x) = x ∷ []
atoms_of (optional x) = x ∷ []
atoms_of (alternatives xs) = xs

-- how many atoms the slots have
abbrev pub count_atoms : List WrittenSlot → ℕ
count_atoms [] = 0
count_atoms (s ∷ ss) = length (atoms_of s.body) + count_atoms ss
