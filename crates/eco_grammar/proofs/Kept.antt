-- What is made of a text keeps to what a query keeps to.
use Rattle.eco_grammar.proofs.Common.{◌≡◌, ℕ, suc, ◌≤◌, false, List, [], ◌∷◌, ◌++◌, length, drop, Ok, Err, Option, Result, sym, refl}
use Rattle.eco_grammar.proofs.Common.{ap, ◌∙◌, subst, arith, IsTrue, list_any, AllByRecursion, length-append, length-map, Entity, Id, Refusal, QueryTerm}
use Rattle.eco_grammar.proofs.Common.{WrittenAtom, WrittenBody, alternatives, WrittenSlot, atoms_of, count_atoms, QuerySlot, exactly, patterns_of, reads}
use Rattle.eco_grammar.proofs.Common.{IsPattern, IsTerm, IsQuery, ok_map, ok_both, ids_of, term_of_body, slots_of_written, is_positive_body, slots_from}
use Rattle.eco_grammar.proofs.Common.{some_of, last_of, term_with, IsLast, Mark, Head, Plain, LastTerm}
use Rattle.eco_query.specs.Queries.{is_positive as asks_there}
use Rattle.eco_grammar.proofs.Built.{Standing, standing_end}
use Rattle.eco_ids.specs.Terms as terms
use Rattle.eco_grammar.specs.declared.last_term.LastTerm.TheVariants as last

-- ---- what a result comes from

map_ok : {A B : Type 0} (f : A → B) (r : Result A Refusal) (b : B) → ok_map f r ≡ Ok b → (a : A) × (r ≡ Ok a) × (f a ≡ b)
map_ok f (Err k) b e = cc
map_ok f (Ok a) b e = (a, refl, cc)

both_ok : {A B C : Type 0} (f : A → B → C) (r : Result A Refusal) (s : Result B Refusal) (c : C) → ok_both f r s ≡ Ok c
    → (a : A) × (b : B) × (r ≡ Ok a) × (s ≡ Ok b) × (f a b ≡ c)
both_ok f (Err k) s c e = cc
both_ok f (Ok a) (Err k) c e = cc
both_ok f (Ok a) (Ok b) c e = (a, b, refl, refl, cc)

all_more : {A : Type 0} (P : A → Type 0) (xs : List A) (x : A) → AllByRecursion P xs → P x → AllByRecursion P (xs ++ x ∷ [])
all_more P [] x h p = (p, tt)
all_more P (y ∷ xs) x (q, h) p = (q, all_more P xs x h p)

module _ (entity_named : List ℕ → Option Entity) where
  slots_first : (s : WrittenSlot) (ss : List WrittenSlot) (qs : List QuerySlot) → slots_of_written entity_named (s ∷ ss) ≡ Ok qs
      → (t : QueryTerm) × (ts : List QuerySlot) × (term_of_body entity_named s.body ≡ Ok t) × (slots_of_written entity_named ss ≡ Ok ts)
      × ((record { access = s.access; term = t }) ∷ ts ≡ qs)
  slots_first s ss qs e =
      let (q, ts, one, more, same) = both_ok _ _ _ qs e in
      let (t, asked, made) = map_ok _ _ q one in
      (t, ts, asked, more, subst (λ k. k ∷ ts ≡ qs) (sym made) same)

  -- ---- the slots that are made ask for something that is there where those that are written do

  body_positive : (k : WrittenBody) (t : QueryTerm) → term_of_body entity_named k ≡ Ok t → is_positive_body k ≡ asks_there t
  body_positive (alternatives []) t e = let same : terms.Or [] ≡ t = cc in ap asks_there same
  body_positive (alternatives (x ∷ [])) t e = let (p, known, same) = map_ok _ _ t e in ap asks_there same
  body_positive _ t e = let (made, known, same) = map_ok _ _ t e in ap asks_there same

  pub slots_positive : (ss : List WrittenSlot) (qs : List QuerySlot) → slots_of_written entity_named ss ≡ Ok qs
      → list_any (λ s. is_positive_body s.body) ss ≡ list_any (λ q. asks_there q.term) qs
  slots_positive [] qs e = let none : [] ≡ qs = cc in ap (list_any (λ q. asks_there q.term)) none
  slots_positive (s ∷ ss) qs e =
      let (t, ts, asked, more, same) = slots_first s ss qs e in
      rw (body_positive s.body t asked, slots_positive ss ts more) (ap (list_any (λ q. asks_there q.term)) same)

  -- ---- they have as many terms as atoms are written

  ids_counted : (xs : List WrittenAtom) (is : List Id) → ids_of entity_named xs ≡ Ok is → length is ≡ length xs
  ids_counted [] is e = let none : [] ≡ is = cc in sym (ap length none)
  ids_counted (x ∷ xs) is e =
      let (i, js, known, more, same) = both_ok _ _ _ is e in
      sym (ap length same) ∙ ap (λ n. suc n) (ids_counted xs js more)

  body_counted : (k : WrittenBody) (t : QueryTerm) → term_of_body entity_named k ≡ Ok t → length (patterns_of t) ≡ length (atoms_of k)
  body_counted (alternatives []) t e = let same : terms.Or [] ≡ t = cc in sym (ap (λ k. length (patterns_of k)) same)
  body_counted (alternatives (x ∷ y ∷ xs)) t e =
      let (is, known, same) = map_ok _ _ t e in
      sym (ap (λ k. length (patterns_of k)) same) ∙ length-map is exactly ∙ ids_counted (x ∷ y ∷ xs) is known
  body_counted _ t e = let (made, known, same) = map_ok _ _ t e in sym (ap (λ k. length (patterns_of k)) same)

  slots_counted : (ss : List WrittenSlot) (qs : List QuerySlot) → slots_of_written entity_named ss ≡ Ok qs → length (reads qs) ≡ count_atoms ss
  slots_counted [] qs e = let none : [] ≡ qs = cc in sym (ap (λ qs. length (reads qs)) none)
  slots_counted (s ∷ ss) qs e =
      let (t, ts, asked, more, same) = slots_first s ss qs e in
      sym (ap (λ qs. length (reads qs)) same) ∙ length-append (patterns_of t) (reads ts) ∙ rw (body_counted s.body t asked, slots_counted ss ts more) refl

-- ---- their numbers are in range, and alternatives are two or more

-- what was made so far, and the alternatives that are pending
pub record InRange (ys : List QuerySlot) (group : List Id) : Type 0 where
  pub terms : AllByRecursion (λ y. IsTerm y.term) ys
  pub ids : AllByRecursion (λ i. IsPattern (exactly i)) group

module _ (entity_named : List ℕ → Option Entity) where
  -- an alternative is the last of some
  lone : (h : Head) (x : WrittenAtom) (i : Id) → last_of entity_named h false x ≡ Ok (last.Alternative i) → ⊥
  lone Plain x i e = let (p, known, same) = map_ok _ _ _ e in cc
  lone _ x i e = let (made, known, same) = map_ok _ _ _ e in cc

  last_kept : (h : Head) (xs : List WrittenAtom) (group : List Id) (x : WrittenAtom) (l : LastTerm) → ids_of entity_named xs ≡ Ok group
      → last_of entity_named h (some_of xs) x ≡ Ok l → AllByRecursion (λ i. IsPattern (exactly i)) group → IsLast l → IsTerm (term_with group l)
  last_kept h [] group x (last.Alternative i) d e g r = absurd (lone h x i e)
  last_kept h (y ∷ xs) [] x (last.Alternative i) d e g r = let none : 0 ≡ length (y ∷ xs) = ids_counted entity_named (y ∷ xs) [] d in
      absurd (omega arith)
  last_kept h (y ∷ xs) (j ∷ js) x (last.Alternative i) d e g r =
      (let count = length-append (j ∷ js) (i ∷ []) in omega arith, all_more (λ i. IsPattern (exactly i)) (j ∷ js) i g r)
  last_kept h xs group x _ d e g r = r

  module _ (all : List Mark) (xs : List WrittenAtom) (ys : List QuerySlot) (group : List Id) (rest : List Mark) where
    pub slot_kept : (s : Standing entity_named all xs ys group rest) (q : QuerySlot) (h : Head) (x : WrittenAtom) (l : LastTerm)
        → last_of entity_named h (some_of xs) x ≡ Ok l → InRange ys group → IsLast l → q.term ≡ term_with group l → InRange (ys ++ q ∷ []) []
    slot_kept s q h x l e r k same = record {
      terms = all_more (λ y. IsTerm y.term) ys q r.terms (subst IsTerm (sym same) (last_kept h xs group x l s.known e r.ids k));
      ids = tt;
    }

pub first_kept : InRange [] []
first_kept = record { terms = tt; ids = tt }

pub id_kept : (ys : List QuerySlot) (group : List Id) (i : Id) → InRange ys group → IsPattern (exactly i) → InRange ys (group ++ i ∷ [])
id_kept ys group i r k = record { terms = r.terms; ids = all_more (λ i. IsPattern (exactly i)) group i r.ids k }

-- at the end of the atoms a query is made
pub query_kept : (entity_named : List ℕ → Option Entity) (all : List Mark) (xs : List WrittenAtom) (ys : List QuerySlot) (group : List Id) (i : ℕ)
    → Standing entity_named all xs ys group (drop i all) → length all ≤ i → InRange ys group → count_atoms (slots_from [] all) ≤ 32
    → IsTrue (list_any (λ s. is_positive_body s.body) (slots_from [] all)) → IsQuery ys
query_kept entity_named all xs ys group i s le r few positive =
    let made = standing_end entity_named all xs ys group i s le in
    record {
      terms = r.terms;
      few = subst (λ n. n ≤ 32) (sym (slots_counted entity_named (slots_from [] all) ys made)) few;
      positive = subst IsTrue (slots_positive entity_named (slots_from [] all) ys made) positive;
    }
