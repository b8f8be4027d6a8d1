-- What a change of one list of edges leaves.
use Rattle.eco_index.proofs.Common.{◌≡◌, ◌≢◌, ℕ, zero, suc, get_or, ◌<◌, ◌≤◌, ◌&&◌, ◌||◌, Bool, true, false, cond, List, take}
use Rattle.eco_index.proofs.Common.{[], ◌∷◌, ◌++◌, length, set, Option, Some, None, nat_eq, refl, sym, ap, ◌∙◌, arith, Result, Ok, Err, OnOk}
use Rattle.eco_index.proofs.Common.{OnErr, lookup, slice_get_past, Decides-eqb, Id, same_id, edge, edge_of, leads_to, IsTwofold, SameEdges, Puts}
use Rattle.eco_index.proofs.Common.{Links, Cuts, id_eq-Decides}
use Rattle.std.specs.List.{slice_get}
use Rattle.std.proofs.lemmas.Grind.{common_steps}
use Rattle.eco_ids.proofs.Lists.{slice_get-set_same, slice_get-set_other, some_at}

-- the two ways of a test
pub way : (b : Bool) (P : Type 0) → (b ≡ true → P) → (b ≡ false → P) → P
way true P f g = f refl
way false P f g = g refl

abbrev pub same_slot : (a b : ℕ) → nat_eq a b ≡ true → a ≡ b
same_slot a b e = (Decides-eqb a b).0 e

-- the last entry, where none before it has its key
pub popped : (es : List (Id × ℕ)) (i : Id) (to : ℕ) → lookup (same_id i) es ≡ None → lookup (same_id i) (es ++ (i, to) ∷ []) ≡ Some to
popped [] i to none = let same = (id_eq-Decides i i).1 refl in rw same refl
popped (e ∷ es) i to none = by (same_id i e.0) refl (λ rest. popped es i to rest)
  where
    by : (b : Bool) → same_id i e.0 ≡ b → (lookup (same_id i) es ≡ None → lookup (same_id i) (es ++ (i, to) ∷ []) ≡ Some to)
        → lookup (same_id i) ((e ∷ es) ++ (i, to) ∷ []) ≡ Some to
    by true e' rest = let bad = rw e' at none in cc
    by false e' rest = let later = rw e' at none in rw e' (rest later)

-- an entry that is looked for, and none before it
pub lookup_here : (t : Id → Bool) (es : List (Id × ℕ)) (k : ℕ) (e : Id × ℕ) → lookup t (take k es) ≡ None → slice_get es k ≡ Some e → t e.0 ≡ true →
    lookup t es ≡ Some e.1
lookup_here t [] k e none at is = absurd (cc)
lookup_here t (x ∷ es) zero e none at is =
    let same : x ≡ e = cc in
    ap (λ (y : Id × ℕ). cond (t y.0) (Some y.1) (lookup t es)) same ∙ ap (λ b. cond b (Some e.1) (lookup t es)) is
lookup_here t (x ∷ es) (suc k) e none at is = by (t x.0) none (λ h. lookup_here t es k e h at is)
  where
    by : (b : Bool) → cond b (Some x.1) (lookup t (take k es)) ≡ None → (lookup t (take k es) ≡ None → lookup t es ≡ Some e.1)
        → cond b (Some x.1) (lookup t es) ≡ Some e.1
    by true h rest = absurd (cc)
    by false h rest = rest h

-- one that is not, and none before it
pub lookup_past : {K X : Type 0} (t : K → Bool) (es : List (K × X)) (k : ℕ) (e : K × X) → lookup t (take k es) ≡ None → slice_get es k ≡ Some e
    → t e.0 ≡ false → lookup t (take (suc k) es) ≡ None
lookup_past t [] k e none at other = absurd (cc)
lookup_past {K = K} {X = X} t (x ∷ es) zero e none at other =
    let same : x ≡ e = cc in
    ap (λ (y : K × X). cond (t y.0) (Some y.1) None) same ∙ ap (λ b. cond b (Some e.1) None) other
lookup_past t (x ∷ es) (suc k) e none at other = by (t x.0) none (λ h. lookup_past t es k e h at other)
  where
    by : (b : Bool) → cond b (Some x.1) (lookup t (take k es)) ≡ None → (lookup t (take k es) ≡ None → lookup t (take (suc k) es) ≡ None)
        → cond b (Some x.1) (lookup t (take (suc k) es)) ≡ None
    by true h rest = absurd (cc)
    by false h rest = rest h

-- where an edge that is there leads
pub leads_is : (n : ℕ) (o : Option ℕ) → leads_to n o ≡ true → o ≡ Some n
leads_is n None e = let bad : ◌≡◌ {A = Bool} false true = e in cc
leads_is n (Some m) e = ap Some (sym (same_slot n m e))

pub leads_there : (n : ℕ) (o : Option ℕ) → o ≡ Some n → leads_to n o ≡ true
leads_there n o e = ap (leads_to n) e ∙ (Decides-eqb n n).1 refl

-- one list is another now, which differs at one id
pub put_edges : (lists : List (List (Id × ℕ))) (slot : ℕ) (m' : List (Id × ℕ)) (i : Id) (to : Option ℕ) → slot < length lists
    → ((q : Id) → lookup (same_id q) m' ≡ cond (same_id i q) to (edge lists slot q))
    → Puts lists (set lists slot m') slot i to
put_edges lists slot m' i to within gets n j = way (nat_eq n slot) (edge (set lists slot m') n j ≡ cond (nat_eq n slot && same_id i j) to (edge lists n j))
    (λ same.
    let is = same_slot n slot same in
    ap (λ k. edge (set lists slot m') k j) is
    ∙ ap (λ o. edge_of o j) (slice_get-set_same lists slot m' within)
    ∙ gets j
    ∙ ap (λ k. cond (same_id i j) to (edge lists k j)) (sym is)
    ∙ ap (λ b. cond (b && same_id i j) to (edge lists n j)) (sym same))
    (λ other.
    let apart : n ≢ slot = λ is. let bad = (Decides-eqb n slot).1 is in cc in
    ap (λ o. edge_of o j) (slice_get-set_other lists slot n m' apart)
    ∙ ap (λ b. cond (b && same_id i j) to (edge lists n j)) (sym other))

-- past the end there is no edge, so none goes
pub take_past : (lists : List (List (Id × ℕ))) (slot : ℕ) (i : Id) → length lists ≤ slot → Puts lists lists slot i None
take_past lists slot i past n j = way (nat_eq n slot) (edge lists n j ≡ cond (nat_eq n slot && same_id i j) None (edge lists n j))
    (λ same.
    let none : edge lists n j ≡ None = ap (λ k. edge lists k j) (same_slot n slot same) ∙ ap (λ o. edge_of o j) (slice_get_past lists slot past) in
    none ∙ by (nat_eq n slot && same_id i j) (edge lists n j) none)
    (λ other. ap (λ b. cond (b && same_id i j) None (edge lists n j)) (sym other))
  where
    by : (b : Bool) (o : Option ℕ) → o ≡ None → None ≡ cond b None o
    by true o e = refl
    by false o e = sym e

-- a list without edges more
pub cover_edges : (lists : List (List (Id × ℕ))) (m : List (Id × ℕ)) → m ≡ [] → SameEdges lists (lists ++ m ∷ [])
cover_edges [] m none zero j = ap (λ es. lookup (same_id j) es) none
cover_edges [] m none (suc n) j = refl
cover_edges (x ∷ xs) m none zero j = refl
cover_edges (x ∷ xs) m none (suc n) j = cover_edges xs m none n j

-- one edge back is taken, and its own with it: what is left to take comes to the same
pub back_more : (own own' : List (Id × ℕ)) (now now' : List (List (Id × ℕ))) (i : Id) (to : ℕ)
    → lookup (same_id i) own ≡ Some to
    → ((q : Id) → lookup (same_id q) own' ≡ cond (same_id i q) None (lookup (same_id q) own))
    → Puts now now' to i None
    → (n : ℕ) (j : Id) → cond (leads_to n (lookup (same_id j) own')) None (edge now' n j) ≡ cond (leads_to n (lookup (same_id j) own)) None (edge now n j)
back_more own own' now now' i to had gets puts n j =
    ap (λ o. cond (leads_to n o) None (edge now' n j)) (gets j)
    ∙ ap (λ o. cond (leads_to n (cond (same_id i j) None (lookup (same_id j) own))) None o) (puts n j)
    ∙ way (same_id i j) (cond (leads_to n (cond (same_id i j) None (lookup (same_id j) own))) None (cond (nat_eq n to && same_id i j) None (edge now n j))
    ≡ cond (leads_to n (lookup (same_id j) own)) None (edge now n j))
    (λ same.
    let is = (id_eq-Decides i j).0 same in
    let here : lookup (same_id j) own ≡ Some to = ap (λ k. lookup (same_id k) own) (sym is) ∙ had in
    rw (same, here) (by (nat_eq n to) (edge now n j)))
    (λ other. rw other (none_of (nat_eq n to) (lookup (same_id j) own) (edge now n j)))
  where
    by : (b : Bool) (o : Option ℕ) → cond (b && true) None o ≡ cond b None o
    by true o = refl
    by false o = refl

    none_of : (b : Bool) (g o : Option ℕ) → cond (leads_to n g) None (cond (b && false) None o) ≡ cond (leads_to n g) None o
    none_of true g o = refl
    none_of false g o = refl

-- what stands at a slot has the slot's edges
pub at_slot : (lists : List (List (Id × ℕ))) (slot : ℕ) (m : List (Id × ℕ)) → slot < length lists → m ≡ get_or lists slot m →
    (q : Id) → lookup (same_id q) m ≡ edge lists slot q
at_slot lists slot m within is q = ap (λ x. lookup (same_id q) x) is ∙ sym (ap (λ o. edge_of o q) (some_at lists slot m within))

-- from either side
both_ways : (lists : List (List (Id × ℕ))) → IsTwofold lists → (n m : ℕ) (j : Id) → leads_to n (edge lists m j) ≡ leads_to m (edge lists n j)
both_ways lists twofold n m j = by (leads_to n (edge lists m j)) (leads_to m (edge lists n j)) refl refl
  where
    by : (a b : Bool) → leads_to n (edge lists m j) ≡ a → leads_to m (edge lists n j) ≡ b → a ≡ b
    by true true p q = refl
    by false false p q = refl
    by true false p q = let r = leads_there m (edge lists n j) (twofold m n j (leads_is n (edge lists m j) p)) in cc
    by false true p q = let r = leads_there n (edge lists m j) (twofold n m j (leads_is m (edge lists n j) q)) in cc

-- what has no edges is cut off already
pub cut_none : (lists : List (List (Id × ℕ))) (slot : ℕ) → IsTwofold lists → ((j : Id) → edge lists slot j ≡ None) → Cuts lists lists slot
cut_none lists slot twofold none n j =
    let back : leads_to slot (edge lists n j) ≡ false = sym (both_ways lists twofold n slot j) ∙ ap (leads_to n) (none j) in
    way (nat_eq n slot) (edge lists n j ≡ cond (nat_eq n slot || leads_to slot (edge lists n j)) None (edge lists n j))
    (λ same.
    ap (λ k. edge lists k j) (same_slot n slot same) ∙ none j ∙ ap (λ b. cond (b || leads_to slot (edge lists n j)) None (edge lists n j)) (sym same))
    (λ other. ap (λ b. cond b None (edge lists n j)) (sym (ap (λ b. b || leads_to slot (edge lists n j)) other ∙ back)))

pub cut_past : (lists : List (List (Id × ℕ))) (slot : ℕ) → IsTwofold lists → length lists ≤ slot → Cuts lists lists slot
cut_past lists slot twofold past = cut_none lists slot twofold (λ j. ap (λ o. edge_of o j) (slice_get_past lists slot past))

pub cut_empty : (lists : List (List (Id × ℕ))) (slot : ℕ) (own : List (Id × ℕ)) → IsTwofold lists → slot < length lists → own ≡ get_or lists slot own
    → own ≡ [] → Cuts lists lists slot
cut_empty lists slot own twofold within is none =
    cut_none lists slot twofold (λ j. sym (at_slot lists slot own within is j) ∙ ap (lookup (same_id j)) none)

pub cut_edges : (old new : List (List (Id × ℕ))) (slot : ℕ) (own m' : List (Id × ℕ)) → IsTwofold old → slot < length old
    → own ≡ get_or old slot own → m' ≡ []
    → ((n : ℕ) (j : Id) → edge new n j ≡ cond (leads_to n (lookup (same_id j) own)) None (edge (set old slot m') n j))
    → Cuts old new slot
cut_edges old new slot own m' twofold within is none takes n j = takes n j ∙ way (nat_eq n slot)
    (cond (leads_to n (lookup (same_id j) own)) None (edge (set old slot m') n j) ≡ cond (nat_eq n slot || leads_to slot (edge old n j)) None (edge old n j))
    (λ same.
    ap (λ k. cond (leads_to n (lookup (same_id j) own)) None (edge (set old slot m') k j)) (same_slot n slot same)
    ∙ ap (λ o. cond (leads_to n (lookup (same_id j) own)) None (edge_of o j)) (slice_get-set_same old slot m' within)
    ∙ ap (λ es. cond (leads_to n (lookup (same_id j) own)) None (lookup (same_id j) es)) none
    ∙ nothing (leads_to n (lookup (same_id j) own))
    ∙ ap (λ b. cond (b || leads_to slot (edge old n j)) None (edge old n j)) (sym same))
    (λ other.
    let apart : n ≢ slot = λ is. let bad = (Decides-eqb n slot).1 is in cc in
    ap (λ o. cond (leads_to n (lookup (same_id j) own)) None (edge_of o j)) (slice_get-set_other old slot n m' apart)
    ∙ ap (λ o. cond (leads_to n o) None (edge old n j)) (at_slot old slot own within is j)
    ∙ ap (λ b. cond b None (edge old n j)) (both_ways old twofold n slot j)
    ∙ ap (λ b. cond (b || leads_to slot (edge old n j)) None (edge old n j)) (sym other))
  where
    nothing : (b : Bool) → cond {A = Option ℕ} b None None ≡ None
    nothing true = refl
    nothing false = refl

-- a slot without edges gets another list without any
pub emptied_edges : (lists : List (List (Id × ℕ))) (slot : ℕ) (m' : List (Id × ℕ)) → slot < length lists → ((j : Id) → edge lists slot j ≡ None)
    → m' ≡ [] → SameEdges lists (set lists slot m')
emptied_edges lists slot m' within bare none n j = way (nat_eq n slot) (edge (set lists slot m') n j ≡ edge lists n j)
    (λ same.
    ap (λ k. edge (set lists slot m') k j) (same_slot n slot same)
    ∙ ap (λ o. edge_of o j) (slice_get-set_same lists slot m' within)
    ∙ ap (λ es. lookup (same_id j) es) none
    ∙ sym (ap (λ k. edge lists k j) (same_slot n slot same) ∙ bare j))
    (λ other. ap (λ o. edge_of o j) (slice_get-set_other lists slot n m' (λ is. let bad = (Decides-eqb n slot).1 is in cc)))

-- a slot gets a list of the same edges
pub stayed_edges : (lists : List (List (Id × ℕ))) (slot : ℕ) (m m' : List (Id × ℕ)) → slot < length lists → m ≡ get_or lists slot m
    → m' ≡ m → SameEdges lists (set lists slot m')
stayed_edges lists slot m m' within is same n j = way (nat_eq n slot) (edge (set lists slot m') n j ≡ edge lists n j)
    (λ here.
    ap (λ k. edge (set lists slot m') k j) (same_slot n slot here)
    ∙ ap (λ o. edge_of o j) (slice_get-set_same lists slot m' within)
    ∙ ap (lookup (same_id j)) same
    ∙ at_slot lists slot m within is j
    ∙ sym (ap (λ k. edge lists k j) (same_slot n slot here)))
    (λ other. ap (λ o. edge_of o j) (slice_get-set_other lists slot n m' (λ is. let bad = (Decides-eqb n slot).1 is in cc)))

-- a slot that was cut has no edge
pub cut_bare : (old new : List (List (Id × ℕ))) (slot : ℕ) → Cuts old new slot → (j : Id) → edge new slot j ≡ None
cut_bare old new slot cuts j =
    cuts slot j ∙ ap (λ b. cond (b || leads_to slot (edge old slot j)) None (edge old slot j)) ((Decides-eqb slot slot).1 refl)

-- an edge that was put where none was, and taken again
pub put_taken : (g g1 g2 g3 g4 : List (List (Id × ℕ))) (n : ℕ) (i : Id) (to : ℕ) → edge g n i ≡ None → SameEdges g g1
    → Puts g1 g2 n i (Some to) → SameEdges g2 g3 → Puts g3 g4 n i None → SameEdges g g4
put_taken g g1 g2 g3 g4 n i to none covered put stayed taken k j =
    taken k j ∙ by (nat_eq k n) (same_id i j) refl refl
  where
    by : (a b : Bool) → nat_eq k n ≡ a → same_id i j ≡ b → cond (a && b) None (edge g3 k j) ≡ edge g k j
    by true true e f =
        sym (ap (λ m. edge g m j) (same_slot k n e) ∙ sym (ap (edge g n) ((id_eq-Decides i j).0 f)) ∙ none)
    by true false e f = stayed k j ∙ put k j ∙ ap (λ c. cond (c && same_id i j) (Some to) (edge g1 k j)) e
        ∙ ap (λ c. cond c (Some to) (edge g1 k j)) f ∙ covered k j
    by false b e f = stayed k j ∙ put k j ∙ ap (λ c. cond (c && same_id i j) (Some to) (edge g1 k j)) e ∙ covered k j

-- an edge either way more, where there was none: each still leads back
module _ (old new : List (List (Id × ℕ))) (a b : ℕ) (i : Id) where
  linked_twofold : a ≢ b → edge old a i ≡ None → edge old b i ≡ None → IsTwofold old → Links old new a i b → (n m : ℕ) (j : Id) →
      edge new n j ≡ Some m → edge new m j ≡ Some n
  linked_twofold apart none_a none_b twofold links n m j leads = grind (arith, common_steps, links n j, links m j, twofold n m j, Decides-eqb, id_eq-Decides)

  -- whether it was done, or refused
  pub link_twofold : {T E : Type 0} (r : Result T E) → a ≢ b → edge old a i ≡ None → edge old b i ≡ None → IsTwofold old
      → OnOk r (Links old new a i b) → OnErr r (SameEdges old new) → IsTwofold new
  link_twofold (Ok x) apart none_a none_b twofold links kept = linked_twofold apart none_a none_b twofold links
  link_twofold (Err e) apart none_a none_b twofold links kept = λ n m j leads. kept m j ∙ twofold n m j (sym (kept n j) ∙ leads)
