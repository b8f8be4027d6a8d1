-- Queries, ids and references: what the reader ends with is spelled, and where it stops the fault lies.
use Rattle.eco_scan.proofs.Common.{◌≡◌, ℕ, List, [], ◌∷◌, ◌++◌, length, Some, sym, refl, ap, ◌∙◌, subst, arith, common_steps, Reference}
use Rattle.eco_scan.proofs.Common.{named, each, any, WrittenAtom, single, alternatives, WrittenSlot, IsPart, SpellsId, PlacedReference, SpellsRef, SpellsSlots}
use Rattle.eco_scan.proofs.Common.{SpellsQuery, IsAtom, IsSpelled, IsFault, SpellsOnce, Point, Before, end, advance, runs, slots_with, id_start, ref_start}
use Rattle.eco_scan.proofs.Common.{begun, EndsWith, Stops, query_start, InOut, Head, Plain, Not, Optional, Alone, body_of}
use Rattle.eco_scan.proofs.Rest.{Rest, slot_split, slot_join, atom_split, atom_join}
use Rattle.eco_scan.proofs.Runs.{read_out, rest_once}
use Rattle.eco_scan.proofs.Fault.{fault_at}

-- ---- queries

start_in : (size : ℕ) (text : List ℕ) (slots : List WrittenSlot) → SpellsSlots size text slots → Rest size slots query_start text
start_in size text [] s = absurd s
start_in size text (s ∷ ss) (a, b, tok, iss, more) = (a, tok, slot_split size (s ∷ ss) [] s ss a b iss more refl)

pub start_out : (size : ℕ) (text : List ℕ) (slots : List WrittenSlot) → Rest size slots query_start text → SpellsSlots size text slots
start_out size text slots (a, tok, t) =
    let (s, b, ss, iss, more, e) = slot_join size slots [] a t in
    subst (λ k. SpellsSlots size text k) (sym e) (a, b, tok, iss, more)

pub query_fault : (text : List ℕ) (n : ℕ) → Stops query_start text n → IsFault (IsSpelled SpellsQuery) text n
query_fault text n s =
    fault_at (IsSpelled SpellsQuery) query_start tt (λ text (r, s). (r, start_in (length text) text r s)) (λ text r h. (r, start_out (length text) text r h))
    text n s

pub query_ended : (text : List ℕ) (q : Point) (r : List WrittenSlot) → runs advance (0, query_start) text ≡ Some (length text, q) → end q ≡ Some r
    → SpellsQuery text r
query_ended text q r e last = start_out (length text) text r (read_out query_start text r (length text) q e last)

pub query_once : SpellsOnce SpellsQuery
query_once text a b s t = rest_once query_start text a b (start_in (length text) text a s) (start_in (length text) text b t)

-- ---- ids

-- a slot of one atom alone
abbrev pub id_slots : WrittenAtom → List WrittenSlot
id_slots x = (record { access = InOut; body = alternatives (x ∷ []) }) ∷ []

id_in : (text : List ℕ) (x : WrittenAtom) → SpellsId text x → Rest (length text) (id_slots x) id_start text
id_in text x (a, tok, s) = (a, tok, atom_split (length text) (id_slots x) (begun [] InOut Alone) x a [] s (refl, refl))

pub id_out : (text : List ℕ) (r : List WrittenSlot) → Rest (length text) r id_start text → (x : WrittenAtom) × SpellsId text x × (r ≡ id_slots x)
id_out text r (a, tok, t) =
    let (x, v, s, (none, e)) = atom_join (length text) r (begun [] InOut Alone) a t in
    (x, (a, tok, subst (λ v. IsAtom (length text) a v x) none s), e)

last_is : {A : Type 0} (xs : List A) (x y : A) → xs ++ x ∷ [] ≡ y ∷ [] → x ≡ y
last_is [] x y e = cc
last_is (z ∷ []) x y e = cc
last_is (z ∷ w ∷ xs) x y e = cc

body_is : (h : Head) (xs : List WrittenAtom) (x y : WrittenAtom) → body_of h xs x ≡ alternatives (y ∷ []) → x ≡ y
body_is Plain xs x y e = last_is xs x y cc
body_is Not xs x y e = cc
body_is Optional xs x y e = cc
body_is Alone xs x y e = last_is xs x y cc

-- a slot of one atom alone has that atom
atom_is : (c : Before) (x y : WrittenAtom) → slots_with c.head c x ≡ id_slots y → x ≡ y
atom_is c x y e = grind (arith, common_steps, last_is, body_is)

pub id_ended : (text : List ℕ) (x : WrittenAtom) → EndsWith id_start text x → SpellsId text x
id_ended text x (q, c, e, last) =
    let (y, s, same) = id_out text (slots_with c.head c x) (read_out id_start text (slots_with c.head c x) (length text) q e last) in
    subst (λ z. SpellsId text z) (sym (atom_is c x y same)) s

pub id_fault : (text : List ℕ) (n : ℕ) → Stops id_start text n → IsFault (IsSpelled SpellsId) text n
id_fault text n s =
    fault_at (IsSpelled SpellsId) id_start tt (λ text (x, s). (id_slots x, id_in text x s)) (λ text r h. let (x, s, e) = id_out text r h in (x, s)) text n s

pub id_once : SpellsOnce SpellsId
id_once text a b s t = atom_is (begun [] InOut Alone) a b (rest_once id_start text (id_slots a) (id_slots b) (id_in text a s) (id_in text b t))

-- ---- references

abbrev ref_slots : PlacedReference → List WrittenSlot
ref_slots r = id_slots (single (named r.at r.reference))

ref_in : (text : List ℕ) (r : PlacedReference) → SpellsRef text r → Rest (length text) (ref_slots r) ref_start text
ref_in text r (a, tok, s) = (a, tok, (named r.at r.reference, [], s, (tt, refl, refl)))

pub ref_out : (text : List ℕ) (slots : List WrittenSlot) → Rest (length text) slots ref_start text
    → (r : PlacedReference) × SpellsRef text r × (slots ≡ ref_slots r)
ref_out text slots (a, tok, (named from r, v, s, (is, none, e))) =
    (record { at = from; reference = r }, (a, tok, subst (λ v. IsPart (length text) a v (named from r)) none s), e)
ref_out text slots (a, tok, (each, v, s, (is, none, e))) = absurd is
ref_out text slots (a, tok, (any, v, s, (is, none, e))) = absurd is

pub ref_fault : (text : List ℕ) (n : ℕ) → Stops ref_start text n → IsFault (IsSpelled SpellsRef) text n
ref_fault text n s =
    fault_at (IsSpelled SpellsRef) ref_start tt (λ text (r, s). (ref_slots r, ref_in text r s)) (λ text k h. let (r, s, e) = ref_out text k h in (r, s)) text
    n s

pub ref_ended : (text : List ℕ) (x : WrittenAtom) → EndsWith ref_start text x
    → (r : PlacedReference) × SpellsRef text r × (x ≡ single (named r.at r.reference))
ref_ended text x (q, c, e, last) =
    let (r, s, same) = ref_out text (slots_with c.head c x) (read_out ref_start text (slots_with c.head c x) (length text) q e last) in
    (r, s, atom_is c x (single (named r.at r.reference)) same)

pub ref_once : SpellsOnce SpellsRef
ref_once text a b s t =
    let same : ◌≡◌ {A = WrittenAtom} (single (named a.at a.reference)) (single (named b.at b.reference)) = id_once text _ _ s t in
    let at_is : a.at ≡ b.at = cc in
    let reference_is : a.reference ≡ b.reference = cc in
    ap (λ (k : ℕ). let r : PlacedReference = record { at = k; reference = a.reference } in r) at_is
    ∙ ap (λ (n : Reference). let r : PlacedReference = record { at = b.at; reference = n } in r) reference_is
