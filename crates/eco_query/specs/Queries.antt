-- Queries as contracts see them.
use Rattle.std.specs.Prelude.{◌^◌, ◌<◌, ◌≤◌, ⊤, Bool, true, false, IsTrue, List, [], ◌∷◌, length, map, flat_map}
use Rattle.std.specs.List.{AllByRecursion, list_all, list_any}
use Rattle.eco_ids.specs.Terms.{QueryTerm}
use Rattle.eco_ids.specs.Terms as terms
use Rattle.eco_ids.specs.Answer.{entries_of}
use Rattle.eco_ids.specs.declared.entity.Entity.{Entity}
use Rattle.eco_ids.specs.declared.id.Id.{Id}
use Rattle.eco_ids.specs.declared.id.Id.TheVariants as id
use Rattle.eco_ids.specs.declared.pattern.Part.{Part}
use Rattle.eco_ids.specs.declared.pattern.Part.TheVariants.{Is, Each, Any}
use Rattle.eco_ids.specs.declared.pattern.Pattern.{Pattern}
use Rattle.eco_ids.specs.declared.pattern.Pattern.TheVariants as pattern
use Rattle.eco_query.specs.declared.access.Access.{Access}
use Rattle.eco_query.specs.declared.slot.Slot.{Slot}
use Rattle.eco_query.specs.declared.term.Term.{Term}
use Rattle.eco_query.specs.declared.term.Term.TheVariants.{And, Not, Optional, Or}

-- a slot: its access, and what it asks
pub record QuerySlot : Type 0 where
  pub access : Access
  pub term : QueryTerm

abbrev pub term_view : Term → QueryTerm
term_view (And p) = terms.And p
term_view (Not p) = terms.Not p
term_view (Optional i) = terms.Optional i
term_view (Or v) = terms.Or v.items

abbrev pub slot_view : Slot → QuerySlot
slot_view s = record { access = s.access; term = term_view s.term }

-- the slot asks for something that is there
abbrev pub is_positive : QueryTerm → Bool
is_positive (terms.And p) = true
is_positive (terms.Not p) = false
is_positive (terms.Optional i) = false
is_positive (terms.Or is) = true

-- some slot does, as one of each query does
abbrev pub HasPositive : List QuerySlot → Type 0
HasPositive slots = IsTrue (list_any (λ s. is_positive s.term) slots)

-- there is something in the list
abbrev pub has_any : {A : Type 0} → List A → Bool
has_any [] = false
has_any (x ∷ xs) = true

-- the slot holds on an entity that has these ids: it has an entry there
abbrev pub holds : List Id → QueryTerm → Bool
holds ids slot = has_any (entries_of ids slot)

-- each slot holds on an entity of this type
abbrev pub matches_type : List Id → List QuerySlot → Bool
matches_type ids slots = list_all (λ s. holds ids s.term) slots

-- the pattern that an id alone matches
abbrev pub exactly : Id → Pattern
exactly (id.One e) = pattern.One e
exactly (id.Two r t) = pattern.Two (Is r) (Is t)

-- the patterns that a slot reads
abbrev pub patterns_of : QueryTerm → List Pattern
patterns_of (terms.And p) = p ∷ []
patterns_of (terms.Not p) = p ∷ []
patterns_of (terms.Optional i) = exactly i ∷ []
patterns_of (terms.Or is) = map exactly is

-- those of all slots, in written order, whatever their access
abbrev pub reads : List QuerySlot → List Pattern
reads slots = flat_map (λ s. patterns_of s.term) slots

-- the numbers of a handle are in range
abbrev pub IsHandle : Entity → Type 0
IsHandle e = (e.index < 2 ^ 32) × (e.generation < 2 ^ 16)

abbrev pub IsPatternPart : Part → Type 0
IsPatternPart (Is e) = IsHandle e
IsPatternPart Each = ⊤
IsPatternPart Any = ⊤

abbrev pub IsPattern : Pattern → Type 0
IsPattern (pattern.One e) = IsHandle e
IsPattern (pattern.Two p q) = IsPatternPart p × IsPatternPart q

-- alternatives are two or more
abbrev pub IsTerm : QueryTerm → Type 0
IsTerm (terms.And p) = IsPattern p
IsTerm (terms.Not p) = IsPattern p
IsTerm (terms.Optional i) = IsPattern (exactly i)
IsTerm (terms.Or is) = (2 ≤ length is) × AllByRecursion (λ i. IsPattern (exactly i)) is

-- what a query keeps to: it has at most 32 terms, each alternative counted, and some slot asks for something
-- that is there
pub record IsQuery (slots : List QuerySlot) : Type 0 where
  pub terms : AllByRecursion (λ s. IsTerm s.term) slots
  pub few : length (reads slots) ≤ 32
  pub positive : HasPositive slots
