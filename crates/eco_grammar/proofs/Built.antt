-- The loops from the atoms of a text to its query, each against the slots that the atoms make.
use Rattle.eco_grammar.proofs.Common.{◌≡◌, ℕ, ◌+◌, ◌<◌, ◌≤◌, Bool, true, false, ◌&&◌, ◌||◌, List, [], ◌∷◌, ◌++◌, length}
use Rattle.eco_grammar.proofs.Common.{get_or, drop, if◌then◌else◌, Some, None, Ok, Err, Option, Result, sym, refl, ap, ◌∙◌, subst, append_assoc}
use Rattle.eco_grammar.proofs.Common.{append-nil, arith, list_any, common_steps, Entity, Id, Refusal, WrittenAtom, alternatives, WrittenSlot, has_wildcard}
use Rattle.eco_grammar.proofs.Common.{IsProperAtom, AreProperMarks, QuerySlot, ok_map, ok_both, id_of, ids_of, term_of_body, slots_of_written}
use Rattle.eco_grammar.proofs.Common.{misplaces_wildcard, is_positive_body, slots_from, grouping, AreWhole, body_of, is_bare_head, some_of, ends_positive}
use Rattle.eco_grammar.proofs.Common.{last_of, misplaces_last, term_with, left_over, Access, Mark, Head, Plain, Not, Optional, Alone, LastTerm, atom_view}
use Rattle.std.proofs.Math.Bool.{or-false, or-true}
use Rattle.std.proofs.lemmas.List.{drop_all, drop_more}
use Rattle.std.proofs.lemmas.List.Folds.{list_any-append}
use Rattle.eco_ids.specs.Terms as terms
use Rattle.eco_scan.specs.declared.written.WrittenAtom as written
use Rattle.eco_scan.specs.declared.point.Mark.TheVariants as marks
use Rattle.eco_grammar.specs.declared.last_term.LastTerm.TheVariants as last

pub some_of-more : (xs : List WrittenAtom) (x : WrittenAtom) → some_of (xs ++ x ∷ []) ≡ true
some_of-more [] x = refl
some_of-more (y ∷ xs) x = refl

-- ---- wildcards

-- a wildcard stands wrong in some of the atoms, behind alternatives or not
abbrev pub misplaced : Bool → List Mark → Bool
misplaced g [] = false
misplaced g (marks.Same ∷ ms) = misplaced g ms
misplaced g (marks.Begin ∷ ms) = misplaced g ms
misplaced g (marks.Other a x ∷ ms) = has_wildcard (atom_view x) || misplaced true ms
misplaced g (marks.Slot a h x ∷ ms) = misplaces_last h g (atom_view x) || misplaced false ms

any-append : (p : WrittenAtom → Bool) (xs : List WrittenAtom) (x : WrittenAtom) → list_any p (xs ++ x ∷ []) ≡ (list_any p xs || p x)
any-append p xs x = list_any-append p xs (x ∷ []) ∙ ap (λ c. list_any p xs || c) (or-false (p x))

-- the slot is one of alternatives
group_wildcards : (a : Access) (y : WrittenAtom) (ys : List WrittenAtom) (x : WrittenAtom)
    → misplaces_wildcard (record { access = a; body = alternatives ((y ∷ ys) ++ x ∷ []) }) ≡ (list_any has_wildcard (y ∷ ys) || has_wildcard x)
group_wildcards a y [] x = any-append has_wildcard (y ∷ []) x
group_wildcards a y (z ∷ ys) x = any-append has_wildcard (y ∷ z ∷ ys) x

-- a wildcard in a pending alternative stands wrong in the slot that it leads to
pending_wildcard : (xs : List WrittenAtom) (ms : List Mark) → some_of xs ≡ true → list_any has_wildcard xs ≡ true → grouping true ms ≡ Some false
    → list_any misplaces_wildcard (slots_from xs ms) ≡ true
pending_wildcard xs (marks.Other a x ∷ ms) s w g =
    pending_wildcard (xs ++ atom_view x ∷ []) ms (some_of-more xs (atom_view x)) (any-append has_wildcard xs (atom_view x) ∙ rw w refl) g
pending_wildcard (y ∷ ys) (marks.Slot a Plain x ∷ ms) s w g = rw (group_wildcards a y ys (atom_view x), w) refl
pending_wildcard _ _ s w g = cc

last_wildcard : (a : Access) (h : Head) (xs : List WrittenAtom) (x : WrittenAtom) → list_any has_wildcard xs ≡ false
    → (some_of xs && is_bare_head h) ≡ false
    → misplaces_last h (some_of xs) x ≡ misplaces_wildcard (record { access = a; body = body_of h xs x })
last_wildcard a Plain (y ∷ ys) x w e = sym (group_wildcards a y ys x ∙ rw w refl)
last_wildcard a Alone (y ∷ ys) x w e = cc
last_wildcard a _ _ x w e = refl

pub slot_grouped : (xs : List WrittenAtom) (a : Access) (h : Head) (ms : List Mark)
    → (if some_of xs && is_bare_head h then None else grouping false ms) ≡ Some false
    → ((some_of xs && is_bare_head h) ≡ false) × (grouping false ms ≡ Some false)
slot_grouped xs a h ms e = grind (arith, common_steps, some_of)

wildcards : (xs : List WrittenAtom) (ms : List Mark) → list_any has_wildcard xs ≡ false → grouping (some_of xs) ms ≡ Some false
    → misplaced (some_of xs) ms ≡ list_any misplaces_wildcard (slots_from xs ms)
wildcards xs [] w g = refl
wildcards xs (marks.Same ∷ ms) w g = cc
wildcards xs (marks.Begin ∷ ms) w g = cc
wildcards xs (marks.Other a x ∷ ms) w g =
    elim (has_wildcard (atom_view x)) as
    (λ c. has_wildcard (atom_view x) ≡ c → (c || misplaced true ms) ≡ list_any misplaces_wildcard (slots_from (xs ++ atom_view x ∷ []) ms)) [
      | true ↦ λ e. sym (pending_wildcard (xs ++ atom_view x ∷ []) ms (some_of-more xs (atom_view x))
          (any-append has_wildcard xs (atom_view x) ∙ ap (λ c. list_any has_wildcard xs || c) e ∙ or-true (list_any has_wildcard xs)) g)
      | false ↦ λ e.
          let more = some_of-more xs (atom_view x) in
          ap (λ c. misplaced c ms) (sym more)
          ∙ wildcards (xs ++ atom_view x ∷ []) ms (any-append has_wildcard xs (atom_view x) ∙ rw (w, e) refl) (ap (λ c. grouping c ms) more ∙ g)
    ] refl
wildcards xs (marks.Slot a h x ∷ ms) w g =
    let (bare, rest) = slot_grouped xs a h ms g in
    ap (λ c. c || misplaced false ms) (last_wildcard a h xs (atom_view x) w bare)
    ∙ ap (λ c. misplaces_wildcard (record { access = a; body = body_of h xs (atom_view x) }) || c) (wildcards [] ms refl rest)

-- what the loop over wildcards answers
pub misplaced_is : (ms : List Mark) → AreWhole ms → misplaced false ms ≡ list_any misplaces_wildcard (slots_from [] ms)
misplaced_is ms g = wildcards [] ms refl g

-- ---- slots that ask for something

pub asks_is : (xs : List WrittenAtom) (ms : List Mark) → list_any ends_positive ms ≡ list_any (λ s. is_positive_body s.body) (slots_from xs ms)
asks_is xs (marks.Same ∷ ms) = asks_is xs ms
asks_is xs (marks.Begin ∷ ms) = asks_is [] ms
asks_is xs (marks.Other a x ∷ ms) = asks_is (xs ++ atom_view x ∷ []) ms
asks_is xs (marks.Slot a Not x ∷ ms) = asks_is [] ms
asks_is xs (marks.Slot a Optional x ∷ ms) = asks_is [] ms
asks_is xs _ = refl

-- ---- names

module _ (entity_named : List ℕ → Option Entity) where
  -- slots before others; else the refusal of the others
  abbrev pub joined : List QuerySlot → Result (List QuerySlot) Refusal → Result (List QuerySlot) Refusal
  joined ys (Err e) = Err e
  joined ys (Ok zs) = Ok (ys ++ zs)

  ids_more : (xs : List WrittenAtom) (group : List Id) (x : WrittenAtom) → ids_of entity_named xs ≡ Ok group
      → ids_of entity_named (xs ++ x ∷ []) ≡ ok_map (λ i. group ++ i ∷ []) (id_of entity_named x)
  ids_more [] group x e =
      let none : [] ≡ group = cc in
      elim (id_of entity_named x) as (λ r. ok_both (λ i is. i ∷ is) r (Ok []) ≡ ok_map (λ i. group ++ i ∷ []) r)
      [ Err f ↦ refl | Ok i ↦ ap (λ g. Ok (g ++ i ∷ [])) none ]
  ids_more (y ∷ xs) group x e =
      elim (id_of entity_named y) as (λ r. ok_both (λ i is. i ∷ is) r (ids_of entity_named xs) ≡ Ok group
      → ok_both (λ i is. i ∷ is) r (ids_of entity_named (xs ++ x ∷ [])) ≡ ok_map (λ i. group ++ i ∷ []) (id_of entity_named x)) [
        | Err f ↦ λ e. cc
        | Ok i ↦ λ e. elim (ids_of entity_named xs) as (λ r. ids_of entity_named xs ≡ r → ok_both (λ i is. i ∷ is) (Ok i) r ≡ Ok group
            → ok_both (λ i is. i ∷ is) (Ok i) (ids_of entity_named (xs ++ x ∷ [])) ≡ ok_map (λ i. group ++ i ∷ []) (id_of entity_named x)) [
              | Err f ↦ λ d e. cc
              | Ok rest ↦ λ d e.
                  let same : i ∷ rest ≡ group = cc in
                  ap (λ r. ok_both (λ i is. i ∷ is) (Ok i) r) (ids_more xs rest x d)
                  ∙ elim (id_of entity_named x) as (λ r. ok_both (λ i is. i ∷ is) (Ok i) (ok_map (λ i. rest ++ i ∷ []) r)
                  ≡ ok_map (λ i. group ++ i ∷ []) r) [
                    | Err f ↦ refl
                    | Ok j ↦ ap (λ g. Ok (g ++ j ∷ [])) same
                  ]
            ] refl e
      ] e

  term_two : (y : WrittenAtom) (ys : List WrittenAtom) (x : WrittenAtom)
      → term_of_body entity_named (alternatives ((y ∷ ys) ++ x ∷ [])) ≡ ok_map (λ is. terms.Or is) (ids_of entity_named ((y ∷ ys) ++ x ∷ []))
  term_two y [] x = refl
  term_two y (z ∷ ys) x = refl

  term_group : (y : WrittenAtom) (ys : List WrittenAtom) (group : List Id) (x : WrittenAtom) → ids_of entity_named (y ∷ ys) ≡ Ok group
      → term_of_body entity_named (alternatives ((y ∷ ys) ++ x ∷ []))
      ≡ ok_map (term_with group) (ok_map (λ i. last.Alternative i) (id_of entity_named x))
  term_group y ys group x d =
      term_two y ys x ∙ ap (λ r. ok_map (λ is. terms.Or is) r) (ids_more (y ∷ ys) group x d)
      ∙ elim (id_of entity_named x) as
      (λ r. ok_map (λ is. terms.Or is) (ok_map (λ i. group ++ i ∷ []) r) ≡ ok_map (term_with group) (ok_map (λ i. last.Alternative i) r)) [
        | Err f ↦ refl
        | Ok i ↦ refl
      ]

  -- what a slot asks comes from its last atom and the alternatives before
  term_last : (h : Head) (xs : List WrittenAtom) (group : List Id) (x : WrittenAtom) → ids_of entity_named xs ≡ Ok group
      → (some_of xs && is_bare_head h) ≡ false
      → term_of_body entity_named (body_of h xs x) ≡ ok_map (term_with group) (last_of entity_named h (some_of xs) x)
  term_last Plain (y ∷ ys) group x d e = term_group y ys group x d
  term_last Alone (y ∷ ys) group x d e = cc
  term_last _ _ group x d e = grind (arith, common_steps)

  ids_unknown : (xs : List WrittenAtom) (f : Refusal) (x : WrittenAtom) → ids_of entity_named xs ≡ Err f → ids_of entity_named (xs ++ x ∷ []) ≡ Err f
  ids_unknown [] f x e = cc
  ids_unknown (y ∷ xs) f x e =
      elim (id_of entity_named y) as (λ r. ok_both (λ i is. i ∷ is) r (ids_of entity_named xs) ≡ Err f
      → ok_both (λ i is. i ∷ is) r (ids_of entity_named (xs ++ x ∷ [])) ≡ Err f) [
        | Err k ↦ λ e. e
        | Ok i ↦ λ e. elim (ids_of entity_named xs) as (λ r. ids_of entity_named xs ≡ r → ok_both (λ i is. i ∷ is) (Ok i) r ≡ Err f
            → ok_both (λ i is. i ∷ is) (Ok i) (ids_of entity_named (xs ++ x ∷ [])) ≡ Err f) [
              | Err k ↦ λ d e. let same : ◌≡◌ {A = Result (List Id) Refusal} (Err k) (Err f) = cc in ap (λ r. ok_both (λ i is. i ∷ is) (Ok i) r)
                  (ids_unknown xs k x d) ∙ cc
              | Ok rest ↦ λ d e. cc
            ] refl e
      ] e

  slot_unknown : (s : WrittenSlot) (ss : List WrittenSlot) (f : Refusal) → term_of_body entity_named s.body ≡ Err f
      → slots_of_written entity_named (s ∷ ss) ≡ Err f
  slot_unknown s ss f e =
      ap (λ r. ok_both (λ t ts. t ∷ ts) (ok_map (λ a. let q : QuerySlot = record { access = s.access; term = a } in q) r)
      (slots_of_written entity_named ss)) e

  -- an unknown name in a pending alternative is that of the slots
  pending_unknown : (xs : List WrittenAtom) (ms : List Mark) (f : Refusal) → some_of xs ≡ true → ids_of entity_named xs ≡ Err f
      → grouping true ms ≡ Some false
      → slots_of_written entity_named (slots_from xs ms) ≡ Err f
  pending_unknown xs (marks.Other a x ∷ ms) f s d g =
      pending_unknown (xs ++ atom_view x ∷ []) ms f (some_of-more xs (atom_view x)) (ids_unknown xs f (atom_view x) d) g
  pending_unknown (y ∷ ys) (marks.Slot a Plain x ∷ ms) f s d g =
      slot_unknown (record { access = a; body = alternatives ((y ∷ ys) ++ atom_view x ∷ []) }) (slots_from [] ms) f
      (term_two y ys (atom_view x) ∙ ap (λ r. ok_map (λ is. terms.Or is) r) (ids_unknown (y ∷ ys) f (atom_view x) d))
  pending_unknown _ _ f s d g = cc

-- where a loop stands that looks up names: the slots that it made, the alternatives that are pending, and the atoms that are left
pub record Standing (entity_named : List ℕ → Option Entity) (all : List Mark) (xs : List WrittenAtom) (ys : List QuerySlot) (group : List Id)
    (rest : List Mark) : Type 0 where
  pub known : ids_of entity_named xs ≡ Ok group
  pub whole : slots_of_written entity_named (slots_from [] all) ≡ joined entity_named ys (slots_of_written entity_named (slots_from xs rest))
  pub groups : grouping (some_of xs) rest ≡ Some false
  pub proper : AreProperMarks rest

module _ (entity_named : List ℕ → Option Entity) (all : List Mark) where
  pub standing_first : AreWhole all → AreProperMarks all → Standing entity_named all [] [] [] all
  standing_first g p = grind (arith, common_steps)

  module _ (xs : List WrittenAtom) (ys : List QuerySlot) (group : List Id) where
    pub other_known : (a : Access) (x : written.WrittenAtom) (i : Id) (ms : List Mark) → Standing entity_named all xs ys group (marks.Other a x ∷ ms)
        → id_of entity_named (atom_view x) ≡ Ok i → Standing entity_named all (xs ++ atom_view x ∷ []) ys (group ++ i ∷ []) ms
    other_known a x i ms s e = record {
      known = ids_more entity_named xs group (atom_view x) s.known ∙ ap (ok_map (λ i. group ++ i ∷ [])) e;
      whole = s.whole;
      groups = ap (λ c. grouping c ms) (some_of-more xs (atom_view x)) ∙ s.groups;
      proper = s.proper.1;
    }

    pub other_unknown : (a : Access) (x : written.WrittenAtom) (f : Refusal) (ms : List Mark) → Standing entity_named all xs ys group (marks.Other a x ∷ ms)
        → id_of entity_named (atom_view x) ≡ Err f → slots_of_written entity_named (slots_from [] all) ≡ Err f
    other_unknown a x f ms s e =
        s.whole ∙ ap (joined entity_named ys) (pending_unknown entity_named (xs ++ atom_view x ∷ []) ms f (some_of-more xs (atom_view x))
        (ids_more entity_named xs group (atom_view x) s.known ∙ ap (ok_map (λ i. group ++ i ∷ [])) e) s.groups)

    pub last_unknown : (a : Access) (h : Head) (x : written.WrittenAtom) (f : Refusal) (ms : List Mark)
        → Standing entity_named all xs ys group (marks.Slot a h x ∷ ms)
        → last_of entity_named h (some_of xs) (atom_view x) ≡ Err f → slots_of_written entity_named (slots_from [] all) ≡ Err f
    last_unknown a h x f ms s e =
        let (bare, rest) = slot_grouped xs a h ms s.groups in
        s.whole ∙ ap (joined entity_named ys) (slot_unknown entity_named (record { access = a; body = body_of h xs (atom_view x) }) (slots_from [] ms) f
        (term_last entity_named h xs group (atom_view x) s.known bare ∙ ap (ok_map (term_with group)) e))

    pub last_known : (a : Access) (h : Head) (x : written.WrittenAtom) (l : LastTerm) (ms : List Mark)
        → Standing entity_named all xs ys group (marks.Slot a h x ∷ ms)
        → last_of entity_named h (some_of xs) (atom_view x) ≡ Ok l
        → Standing entity_named all [] (ys ++ (record { access = a; term = term_with group l }) ∷ []) [] ms
    last_known a h x l ms s e =
        let (bare, rest) = slot_grouped xs a h ms s.groups in
        let asked : term_of_body entity_named (body_of h xs (atom_view x)) ≡ Ok (term_with group l) =
        term_last entity_named h xs group (atom_view x) s.known bare ∙ ap (ok_map (term_with group)) e in
        record {
          known = refl;
          whole = s.whole
              ∙ ap (λ r. joined entity_named ys
              (ok_both (λ t ts. t ∷ ts) (ok_map (λ k. let q : QuerySlot = record { access = a; term = k } in q) r)
              (slots_of_written entity_named (slots_from [] ms)))) asked
              ∙ elim (slots_of_written entity_named (slots_from [] ms)) as
              (λ r. joined entity_named ys (ok_both (λ t ts. t ∷ ts) (Ok (let q : QuerySlot = record { access = a; term = term_with group l } in q)) r)
              ≡ joined entity_named (ys ++ (record { access = a; term = term_with group l }) ∷ []) r) [
                | Err f ↦ refl
                | Ok zs ↦ ap (λ qs. Ok qs) (sym (append_assoc ys ((record { access = a; term = term_with group l }) ∷ []) zs))
              ];
          groups = rest;
          proper = s.proper.1;
        }

    pub atom_proper : (a : Access) (x : written.WrittenAtom) (ms : List Mark) → Standing entity_named all xs ys group (marks.Other a x ∷ ms)
        → IsProperAtom (atom_view x)
    atom_proper a x ms s = s.proper.0

    pub last_proper : (a : Access) (h : Head) (x : written.WrittenAtom) (ms : List Mark) → Standing entity_named all xs ys group (marks.Slot a h x ∷ ms)
        → IsProperAtom (atom_view x)
    last_proper a h x ms s = s.proper.0

    pub not_same : (ms : List Mark) → Standing entity_named all xs ys group (marks.Same ∷ ms) → ⊥
    not_same ms s = let e = s.groups in cc

    pub not_begin : (ms : List Mark) → Standing entity_named all xs ys group (marks.Begin ∷ ms) → ⊥
    not_begin ms s = let e = s.groups in cc

no_other : {T : Type 0} (r : Result Id Refusal) (l : LastTerm) → ((i : Id) → last.Alternative i ≡ l → T)
    → ok_map (λ i. last.Alternative i) r ≡ Ok l → T
no_other (Err f) l none e = cc
no_other (Ok i) l none e = none i cc

-- nothing is left of the alternatives behind a slot
pub none_left : (entity_named : List ℕ → Option Entity) (h : Head) (xs : List WrittenAtom) (group : List Id) (x : WrittenAtom) (l : LastTerm)
    → ids_of entity_named xs ≡ Ok group
    → (some_of xs && is_bare_head h) ≡ false → last_of entity_named h (some_of xs) x ≡ Ok l → left_over group l ≡ []
none_left entity_named h xs group x (last.Alternative i) d b e = refl
none_left entity_named Plain (y ∷ ys) group x l d b e = no_other (id_of entity_named x) l (λ i f. cc) e
none_left entity_named _ [] group x _ d b e = cc
none_left entity_named _ (y ∷ ys) group x _ d b e = cc

-- no alternatives are left behind the last atom of a slot
pub standing_left : (entity_named : List ℕ → Option Entity) (all : List Mark) (xs : List WrittenAtom) (ys : List QuerySlot) (group : List Id)
    (a : Access) (h : Head) (x : written.WrittenAtom) (l : LastTerm) (ms : List Mark) → Standing entity_named all xs ys group (marks.Slot a h x ∷ ms)
    → last_of entity_named h (some_of xs) (atom_view x) ≡ Ok l → left_over group l ≡ []
standing_left entity_named all xs ys group a h x l ms s e =
    let (bare, rest) = slot_grouped xs a h ms s.groups in none_left entity_named h xs group (atom_view x) l s.known bare e

-- ---- the atom at an index

pub at_mark : (ms : List Mark) (i : ℕ) (m : Mark) → i < length ms → get_or ms i marks.Same ≡ m → drop i ms ≡ m ∷ drop (i + 1) ms
at_mark ms i m lt e = drop_more ms i marks.Same lt ∙ ap (λ k. k ∷ drop (i + 1) ms) e

pub wildcard_found : (ms : List Mark) (g : Bool) (i : ℕ) (m : Mark) → AreWhole ms → misplaced false ms ≡ misplaced g (drop i ms) → i < length ms
    → get_or ms i marks.Same ≡ m → misplaced g (m ∷ drop (i + 1) ms) ≡ true → true ≡ list_any misplaces_wildcard (slots_from [] ms)
wildcard_found ms g i m w inv lt e wrong = sym (sym (misplaced_is ms w) ∙ inv ∙ ap (misplaced g) (at_mark ms i m lt e) ∙ wrong)

pub wildcard_none : (ms : List Mark) (g : Bool) (i : ℕ) → AreWhole ms → misplaced false ms ≡ misplaced g (drop i ms) → length ms ≤ i
    → false ≡ list_any misplaces_wildcard (slots_from [] ms)
wildcard_none ms g i w inv ge = sym (sym (misplaced_is ms w) ∙ inv ∙ ap (misplaced g) (drop_all i ms ge))

pub positive_found : (ms : List Mark) (i : ℕ) (m : Mark) → list_any ends_positive ms ≡ list_any ends_positive (drop i ms) → i < length ms
    → get_or ms i marks.Same ≡ m → ends_positive m ≡ true → true ≡ list_any (λ s. is_positive_body s.body) (slots_from [] ms)
positive_found ms i m inv lt e found = sym (sym (asks_is [] ms) ∙ inv ∙ ap (list_any ends_positive) (at_mark ms i m lt e)
    ∙ ap (λ c. c || list_any ends_positive (drop (i + 1) ms)) found)

pub positive_none : (ms : List Mark) (i : ℕ) → list_any ends_positive ms ≡ list_any ends_positive (drop i ms) → length ms ≤ i
    → false ≡ list_any (λ s. is_positive_body s.body) (slots_from [] ms)
positive_none ms i inv ge = sym (sym (asks_is [] ms) ∙ inv ∙ ap (list_any ends_positive) (drop_all i ms ge))

module _ (entity_named : List ℕ → Option Entity) (all : List Mark) (xs : List WrittenAtom) (ys : List QuerySlot) (group : List Id) (i : ℕ) where
  pub standing_at : (m : Mark) → Standing entity_named all xs ys group (drop i all) → i < length all → get_or all i marks.Same ≡ m
      → Standing entity_named all xs ys group (m ∷ drop (i + 1) all)
  standing_at m s lt e = subst (λ rest. Standing entity_named all xs ys group rest) (at_mark all i m lt e) s

  pub standing_end : Standing entity_named all xs ys group (drop i all) → length all ≤ i → slots_of_written entity_named (slots_from [] all) ≡ Ok ys
  standing_end s le =
      s.whole ∙ ap (λ rest. joined entity_named ys (slots_of_written entity_named (slots_from xs rest))) (drop_all i all le)
      ∙ ap (λ qs. Ok qs) (append-nil ys)
