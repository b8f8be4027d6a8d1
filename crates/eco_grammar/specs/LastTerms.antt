-- What the last atom of a slot makes of it. Contracts of private functions alone speak of it.
use Rattle.std.specs.Prelude.{ℕ, Bool, true, false, List, [], ◌∷◌, ◌++◌, Option, Result, if◌then◌else◌}
use Rattle.eco_ids.specs.Terms.{QueryTerm}
use Rattle.eco_ids.specs.Terms as terms
use Rattle.eco_ids.specs.declared.entity.Entity.{Entity}
use Rattle.eco_ids.specs.declared.id.Id.{Id}
use Rattle.eco_ids.specs.declared.refusal.Refusal.{Refusal}
use Rattle.eco_scan.specs.Grammar.{WrittenAtom, has_wildcard, is_lone_wildcard}
use Rattle.eco_query.specs.Queries.{IsPattern, exactly}
use Rattle.eco_grammar.specs.Readings.{ok_map, id_of, pattern_of_atom}
use Rattle.eco_scan.specs.declared.point.Head.{Head}
use Rattle.eco_scan.specs.declared.point.Head.TheVariants as heads
use Rattle.eco_scan.specs.declared.point.Mark.{Mark}
use Rattle.eco_scan.specs.declared.point.Mark.TheVariants as marks
use Rattle.eco_grammar.specs.declared.last_term.LastTerm.{LastTerm}
use Rattle.eco_grammar.specs.declared.last_term.LastTerm.TheVariants.{And, Not, Optional, Alternative}

-- behind alternatives it is one more
abbrev pub last_of : (List ℕ → Option Entity) → Head → Bool → WrittenAtom → Result LastTerm Refusal
last_of entity_named heads.Plain grouped x =
    if grouped then ok_map (λ i. Alternative i) (id_of entity_named x)
    else ok_map (λ p. And p) (pattern_of_atom entity_named x)
last_of entity_named heads.Not grouped x = ok_map (λ p. Not p) (pattern_of_atom entity_named x)
last_of entity_named heads.Optional grouped x = ok_map (λ i. Optional i) (id_of entity_named x)
last_of entity_named heads.Alone grouped x =
    if grouped then ok_map (λ i. Alternative i) (id_of entity_named x)
    else ok_map (λ p. And p) (pattern_of_atom entity_named x)

-- a wildcard stands in it where none may stand
abbrev pub misplaces_last : Head → Bool → WrittenAtom → Bool
misplaces_last heads.Plain grouped x = if grouped then has_wildcard x else is_lone_wildcard x
misplaces_last heads.Not grouped x = is_lone_wildcard x
misplaces_last heads.Optional grouped x = has_wildcard x
misplaces_last heads.Alone grouped x = if grouped then has_wildcard x else is_lone_wildcard x

-- what the slot asks, with the alternatives before
abbrev pub term_with : List Id → LastTerm → QueryTerm
term_with group (And p) = terms.And p
term_with group (Not p) = terms.Not p
term_with group (Optional i) = terms.Optional i
term_with group (Alternative i) = terms.Or (group ++ i ∷ [])

-- its numbers are in range
abbrev pub IsLast : LastTerm → Type 0
IsLast (And p) = IsPattern p
IsLast (Not p) = IsPattern p
IsLast (Optional i) = IsPattern (exactly i)
IsLast (Alternative i) = IsPattern (exactly i)

-- the alternatives that are left for the next slot
abbrev pub left_over : List Id → LastTerm → List Id
left_over group (And p) = group
left_over group (Not p) = group
left_over group (Optional i) = group
left_over group (Alternative i) = []

-- the atom ends a slot that asks for something that is there
abbrev pub ends_positive : Mark → Bool
ends_positive marks.Same = false
ends_positive marks.Begin = false
ends_positive (marks.Other a x) = false
ends_positive (marks.Slot a heads.Plain x) = true
ends_positive (marks.Slot a heads.Not x) = false
ends_positive (marks.Slot a heads.Optional x) = false
ends_positive (marks.Slot a heads.Alone x) = true
