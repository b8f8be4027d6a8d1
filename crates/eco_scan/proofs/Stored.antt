-- The store of atoms, and the drafts that its atoms make.
use Rattle.eco_scan.proofs.Common.{◌≡◌, ℕ, ◌+◌, ◌<◌, ◌≤◌, Bool, true, false, ◌&&◌, List, [], ◌∷◌, ◌++◌, length, take}
use Rattle.eco_scan.proofs.Common.{if◌then◌else◌, slice_set, Some, None, Option, option_and_then, sym, refl, ap, ◌∙◌, subst, append_assoc}
use Rattle.eco_scan.proofs.Common.{append-nil, arith, length-append, ltb-true, lt-ltb, cond-false, cond-true, nat_tests, common_steps, length-take-le}
use Rattle.eco_scan.proofs.Common.{take_more_set, WrittenAtom, WrittenSlot, atoms_of, count_atoms, Draft, marked, keeps_slots, atom_view, with_mark, put_down}
use Rattle.eco_scan.proofs.Common.{body_of, slots_from, is_bare_head, grouping, some_of, HoldsSlots, Access, Head, Plain, Not, Optional, Alone}
use Rattle.eco_scan.specs.declared.point.Mark.{Mark}
use Rattle.eco_scan.specs.declared.point.Mark.TheVariants as marks

-- ---- the store

pub stored_within : (over : Bool) (xs : List Mark) (n : ℕ) (m : Mark) → n < length xs → n < 32
    → (if over then None else Some (take (n + 1) (slice_set xs n m))) ≡ option_and_then (λ ms. with_mark ms m) (if over then None else Some (take n xs))
stored_within true xs n m le lt = refl
stored_within false xs n m le lt = grind (arith, common_steps, length-take-le, take_more_set, cond-true, lt-ltb)

pub stored_past : (over : Bool) (xs : List Mark) (n : ℕ) (m : Mark) → n ≤ length xs → 32 ≤ n
    → None ≡ option_and_then (λ ms. with_mark ms m) (if over then None else Some (take n xs))
stored_past true xs n m le ge = refl
stored_past false xs n m le ge = grind (arith, common_steps, length-take-le, cond-false, nat_tests)

-- ---- drafts

-- how many atoms were read
abbrev pub draft_atoms : Draft → ℕ
draft_atoms d = count_atoms d.slots + length d.others

abbrev pub draft_from : Draft → List Mark → Draft
draft_from d [] = d
draft_from d (m ∷ ms) = draft_from (marked m d) ms

abbrev pub nothing_read : Draft
nothing_read = record { slots = []; others = [] }

-- what the store holds of a draft
abbrev pub HoldsDraft : Option (List Mark) → Draft → Type 0
HoldsDraft None d = 32 < draft_atoms d
HoldsDraft (Some ms) d =
    (draft_from nothing_read ms ≡ d) × (grouping false ms ≡ Some (some_of d.others)) × (draft_atoms d ≡ length ms) × (length ms ≤ 32)

draft_from-append : (d : Draft) (ms ns : List Mark) → draft_from d (ms ++ ns) ≡ draft_from (draft_from d ms) ns
draft_from-append d [] ns = refl
draft_from-append d (m ∷ ms) ns = draft_from-append (marked m d) ms ns

grouping-append : (g : Bool) (ms ns : List Mark) → grouping g (ms ++ ns) ≡ option_and_then (λ k. grouping k ns) (grouping g ms)
grouping-append g (marks.Other a x ∷ ms) ns = grouping-append true ms ns
grouping-append g (marks.Slot a h x ∷ ms) ns = grind (arith, common_steps, grouping-append false ms ns)
grouping-append g _ ns = refl

pub some_of-more : (xs : List WrittenAtom) (x : WrittenAtom) → some_of (xs ++ x ∷ []) ≡ true
some_of-more [] x = refl
some_of-more (y ∷ xs) x = refl

pub count_atoms-append : (ss ts : List WrittenSlot) → count_atoms (ss ++ ts) ≡ count_atoms ss + count_atoms ts
count_atoms-append [] ts = omega arith
count_atoms-append (s ∷ ss) ts = let e = count_atoms-append ss ts in omega arith

-- no alternatives are dropped
atoms_of-body : (h : Head) (xs : List WrittenAtom) (x : WrittenAtom) → (some_of xs && is_bare_head h) ≡ false
    → length (atoms_of (body_of h xs x)) ≡ length xs + 1
atoms_of-body Plain xs x e = length-append xs (x ∷ [])
atoms_of-body Not [] x e = refl
atoms_of-body Not (y ∷ xs) x e = cc
atoms_of-body Optional [] x e = refl
atoms_of-body Optional (y ∷ xs) x e = cc
atoms_of-body Alone xs x e = length-append xs (x ∷ [])

-- one atom more is held
store_holds : (t : Option (List Mark)) (d : Draft) (m : Mark) → HoldsDraft t d → draft_atoms (marked m d) ≡ draft_atoms d + 1
    → grouping (some_of d.others) (m ∷ []) ≡ Some (some_of (marked m d).others) → HoldsDraft (option_and_then (λ ms. with_mark ms m) t) (marked m d)
store_holds None d m h more group = omega arith
store_holds (Some ms) d m (draft, grouped, count, within) more group =
    grind (arith, common_steps, length-append, ltb-true, draft_from-append, grouping-append, nat_tests)

others_bare : (d : Draft) → d.others ≡ [] → some_of d.others ≡ false
others_bare d e = ap some_of e

last_bare : (d : Draft) (h : Head) (bare : Bool) → (bare ≡ true → d.others ≡ []) → (if is_bare_head h then bare else true) ≡ true
    → (some_of d.others && is_bare_head h) ≡ false
last_bare d h bare empty e = grind (arith, common_steps, others_bare)

slot_atoms : (d : Draft) (a : Access) (h : Head) (x : WrittenAtom) → (some_of d.others && is_bare_head h) ≡ false
    → count_atoms (d.slots ++ (record { access = a; body = body_of h d.others x }) ∷ []) + 0 ≡ (count_atoms d.slots + length d.others) + 1
slot_atoms d a h x e = grind (arith, common_steps, count_atoms-append, atoms_of-body)

-- what a byte puts down is held
pub put_holds : (t : Option (List Mark)) (d : Draft) (m : Mark) (bare next : Bool) → HoldsDraft t d → (bare ≡ true → d.others ≡ [])
    → keeps_slots bare m next ≡ true → HoldsDraft (put_down t m) (marked m d) × (next ≡ true → (marked m d).others ≡ [])
put_holds None d marks.Begin bare next h empty e = (let o : d.others ≡ [] = empty e in let l : length d.others ≡ 0 = ap length o in omega arith, λ f. refl)
put_holds (Some ms) d marks.Begin bare next h empty e =
    (subst (λ d. HoldsDraft (Some ms) d) (ap (λ (o : List WrittenAtom). let t : Draft = record { slots = d.slots; others = o } in t) (empty e)) h, λ f. refl)
put_holds t d marks.Same bare next h empty e = (h, λ f. empty (sym (cond-true next bare true f) ∙ e))
put_holds t d (marks.Other a x) bare next h empty e = (
  store_holds t d (marks.Other a x) h (let l = length-append d.others (atom_view x ∷ []) in omega arith)
      (sym (ap (λ c. Some c) (some_of-more d.others (atom_view x)))),
  λ f. cc,
)
put_holds t d (marks.Slot a h x) bare next holds empty e = (
  store_holds t d (marks.Slot a h x) holds (slot_atoms d a h (atom_view x) (last_bare d h bare empty e))
      (cond-false (some_of d.others && is_bare_head h) _ _ (last_bare d h bare empty e)),
  λ f. refl,
)

-- ---- the slots that the atoms make

slots_from-draft : (d : Draft) (ms : List Mark) → (draft_from d ms).slots ≡ d.slots ++ slots_from d.others ms
slots_from-draft d [] = sym (append-nil d.slots)
slots_from-draft d (marks.Same ∷ ms) = slots_from-draft d ms
slots_from-draft d (marks.Begin ∷ ms) = slots_from-draft (marked marks.Begin d) ms
slots_from-draft d (marks.Other a x ∷ ms) = slots_from-draft (marked (marks.Other a x) d) ms
slots_from-draft d (marks.Slot a h x ∷ ms) =
    slots_from-draft (marked (marks.Slot a h x) d) ms ∙ append_assoc d.slots _ (slots_from [] ms)

-- the last atom ends the slots
pub held_slots : (t : Option (List Mark)) (d : Draft) → HoldsDraft t d → d.others ≡ [] → HoldsSlots t d.slots
held_slots None d h e = let l : length d.others ≡ 0 = ap length e in omega arith
held_slots (Some ms) d (draft, grouped, count, within) e = grind (arith, common_steps, slots_from-draft)
