-- The refusals of a query, in their order.
use Rattle.eco_grammar.proofs.Common.{◌≡◌, ℕ, ◌≤◌, false, ◌&&◌, List, [], ◌∷◌, ◌++◌, length, Option, Result, Some, None, Err, sym}
use Rattle.eco_grammar.proofs.Common.{refl, ap, ◌∙◌, subst, inl, inr, lt-ltb, IsOk, Entity, Refusal, TooManyTerms, WrittenAtom, WrittenBody, absent}
use Rattle.eco_grammar.proofs.Common.{optional, alternatives, WrittenSlot, AreMore, IsBody, AreMoreSlots, SpellsSlots, SpellsQuery, atoms_of, count_atoms}
use Rattle.eco_grammar.proofs.Common.{IsProperAtom, AreProperMarks, QuerySlot, query_of, InMemory, ReadsInMemory, slots_from, grouping, HoldsSlots, body_of}
use Rattle.eco_grammar.proofs.Common.{is_bare_head, some_of, Mark, Head, Plain, Not, Optional, Alone, atom_view}
use Rattle.eco_grammar.proofs.Built.{slot_grouped, some_of-more}
use Rattle.eco_grammar.proofs.Spelled.{atom_proper}
use Rattle.eco_scan.specs.declared.point.Mark.TheVariants as marks

-- ---- what is spelled is proper

abbrev AreProperAtoms : List WrittenAtom → Type 0
AreProperAtoms [] = Unit {0}
AreProperAtoms (x ∷ xs) = IsProperAtom x × AreProperAtoms xs

abbrev AreProperSlots : List WrittenSlot → Type 0
AreProperSlots [] = Unit {0}
AreProperSlots (s ∷ ss) = AreProperAtoms (atoms_of s.body) × AreProperSlots ss

more_proper : (size : ℕ) (u v : List ℕ) (xs : List WrittenAtom) → AreMore size u v xs → AreProperAtoms xs
more_proper size u v [] s = tt
more_proper size u v (x ∷ xs) (a, b, tok, is, more) = (atom_proper size a b x is, more_proper size b v xs more)

body_proper : (size : ℕ) (u v : List ℕ) (k : WrittenBody) → IsBody size u v k → AreProperAtoms (atoms_of k)
body_proper size u v (absent x) (a, tok, is) = (atom_proper size a v x is, tt)
body_proper size u v (optional x) (a, tok, is) = (atom_proper size a v x is, tt)
body_proper size u v (alternatives []) s = absurd s
body_proper size u v (alternatives (x ∷ xs)) (a, is, more) = (atom_proper size u a x is, more_proper size a v xs more)

slots_proper : (size : ℕ) (u : List ℕ) (ss : List WrittenSlot) → AreMoreSlots size u ss → AreProperSlots ss
slots_proper size u [] s = tt
slots_proper size u (s ∷ ss) (a, b, tok, (c, access, body), more) = (body_proper size c b s.body body, slots_proper size b ss more)

query_proper : (size : ℕ) (text : List ℕ) (ss : List WrittenSlot) → SpellsSlots size text ss → AreProperSlots ss
query_proper size text [] s = absurd s
query_proper size text (s ∷ ss) (a, b, tok, (c, access, body), more) = (body_proper size c b s.body body, slots_proper size b ss more)

-- ---- and so are the atoms that were put down

atoms_apart : (xs : List WrittenAtom) (x : WrittenAtom) → AreProperAtoms (xs ++ x ∷ []) → AreProperAtoms xs × IsProperAtom x
atoms_apart [] x s = (tt, s.0)
atoms_apart (y ∷ xs) x s = let (rest, last) = atoms_apart xs x s.1 in ((s.0, rest), last)

last_proper : (h : Head) (xs : List WrittenAtom) (x : WrittenAtom) → AreProperAtoms (atoms_of (body_of h xs x)) → (some_of xs && is_bare_head h) ≡ false
    → AreProperAtoms xs × IsProperAtom x
last_proper Plain xs x s e = atoms_apart xs x s
last_proper Not [] x s e = (tt, s.0)
last_proper Not (y ∷ xs) x s e = cc
last_proper Optional [] x s e = (tt, s.0)
last_proper Optional (y ∷ xs) x s e = cc
last_proper Alone xs x s e = atoms_apart xs x s

none_proper : (xs : List WrittenAtom) → Some (some_of xs) ≡ Some false → AreProperAtoms xs
none_proper [] e = tt
none_proper (x ∷ xs) e = cc

marks_proper : (xs : List WrittenAtom) (ms : List Mark) → grouping (some_of xs) ms ≡ Some false → AreProperSlots (slots_from xs ms) → AreProperMarks ms
    × AreProperAtoms xs
marks_proper xs [] g s = (tt, none_proper xs g)
marks_proper xs (marks.Other a x ∷ ms) g s =
    let (rest, all) = marks_proper (xs ++ atom_view x ∷ []) ms (ap (λ c. grouping c ms) (some_of-more xs (atom_view x)) ∙ g) s in
    let (before, last) = atoms_apart xs (atom_view x) all in
    ((last, rest), before)
marks_proper xs (marks.Slot a h x ∷ ms) g s =
    let (bare, more) = slot_grouped xs a h ms g in
    let (before, last) = last_proper h xs (atom_view x) s.0 bare in
    let (rest, none) = marks_proper [] ms more s.1 in
    ((last, rest), before)
marks_proper xs _ g s = cc

pub held_proper : (text : List ℕ) (slots : List WrittenSlot) (ms : List Mark) → SpellsQuery text slots → HoldsSlots (Some ms) slots → AreProperMarks ms
held_proper text slots ms s (same, whole, count) =
    let (all, none) = marks_proper [] ms whole (subst AreProperSlots same (query_proper (length text) text slots s)) in all

-- ---- what the atoms that are held are answered with

pub held_few : (slots : List WrittenSlot) (ms : List Mark) → HoldsSlots (Some ms) slots → count_atoms (slots_from [] ms) ≤ 32
held_few slots ms (same, whole, few) = subst (λ s. count_atoms s ≤ 32) same few

module _ (entity_named : List ℕ → Option Entity) (text : List ℕ) (slots : List WrittenSlot) where
  pub held_over : SpellsQuery text slots → HoldsSlots None slots → ReadsInMemory SpellsQuery (query_of entity_named) text (Err TooManyTerms)
  held_over spelled many = inl (inl (slots, spelled, rw (lt-ltb 32 (count_atoms slots) many) refl))

  pub held_answered : (ms : List Mark) (r : Result (List QuerySlot) Refusal) → SpellsQuery text slots → HoldsSlots (Some ms) slots
      → InMemory (query_of entity_named (slots_from [] ms)) r → ReadsInMemory SpellsQuery (query_of entity_named) text r
  held_answered ms r spelled (same, whole, few) (inl e) = inl (inl (slots, spelled, e ∙ ap (query_of entity_named) (sym same)))
  held_answered ms r spelled (same, whole, few) (inr (ok, e)) = inr (slots, spelled, subst (λ s. IsOk (query_of entity_named s)) (sym same) ok, e)
