-- Where the edge of an id leads.
use Rattle.eco_archetypes.proofs.Common.{◌≡◌, ◌≢◌, ℕ, List, Option, Some, None, IsSome, IsTrue, Result, Ok, Err, IfOk, OnOk, OnErr, refl, sym, ap}
use Rattle.eco_archetypes.proofs.Common.{subst, ◌∙◌, Bool, same_Some, Id, id_cmp, is_ascending, TableState, slot_of, table_in, Lists, Cache, edge}
use Rattle.eco_archetypes.proofs.Common.{toggled, IsGraph, IsTwofold, Links, SameEdges, toggled_other, twice, type_at, IsArchetypes}
use Rattle.eco_archetypes.proofs.ArchetypeLemmas.{found_linked, found_unlinked, type_there, there_as_typed, typed_table}

some_none : {X P : Type 0} (x : X) → Some x ≡ None → P
some_none x e = absurd (cc)

-- tables of which one has the id more stand in two slots
pub apart_by_type : (s : List (Option TableState)) (n m : ℕ) (i : Id) (ids : List Id) → type_at s n ≡ Some ids
    → type_at s m ≡ Some (toggled ids i) → n ≢ m
apart_by_type s n m i ids from to same = toggled_other ids i (same_Some _ _ (sym to ∙ sym (ap (type_at s) same) ∙ from))

-- what holds of the slot that a call answers
pub of_slot : {E : Type 0} (P : ℕ → Type 0) (n : ℕ) (r : Result ℕ E) → IfOk r (λ m. m ≡ n) → P n → IfOk r P
of_slot P n (Ok m) is h = subst P (sym is) h
of_slot P n (Err e) is h = is

pub of_slot_after : {E : Type 0} (P : ℕ → Type 0) (n : ℕ) (r : Result ℕ E) → IfOk r (λ m. m ≡ n) → OnOk r (P n) → IfOk r P
of_slot_after P n (Ok m) is h = subst P (sym is) h
of_slot_after P n (Err e) is h = is

module _ (s : List (Option TableState)) (g : List (List (Id × ℕ))) (graph : IsGraph (type_at s) g) (n m : ℕ) (i : Id)
    (leads : edge g n i ≡ Some m) where
  pub lead_there : IsSome (slot_of s m)
  lead_there = let was = graph n m i leads in there_as_typed s m (toggled was.0 i) was.2

  pub lead_apart : n ≢ m
  lead_apart = let was = graph n m i leads in apart_by_type s n m i was.0 was.1 was.2

  pub lead_typed : type_at s m ≡ Some (toggled (table_in s n).ids i)
  lead_typed = let was = graph n m i leads in was.2 ∙ ap (λ ids. Some (toggled ids i)) (sym (typed_table s n was.0 was.1))

-- ---- an edge is stored

module _ {ks : List Cache} {s : List (Option TableState)} {m : ℕ → ℕ → Bool} {l : Lists}
    {g : List (List (Id × ℕ))} (found : IsArchetypes s m l g ks) (from to : ℕ) (i : Id)
    (there : IsSome (slot_of s from)) (up : IsTrue (is_ascending id_cmp (table_in s from).ids))
    (typed : type_at s to ≡ Some (toggled (table_in s from).ids i)) where
  abbrev own : List Id
  own = (table_in s from).ids

  pub link_apart : from ≢ to
  link_apart = apart_by_type s from to i own (type_there s from there) typed

  -- nor does an edge lead back, where none leads there
  pub back_free : IsTwofold g → edge g from i ≡ None → edge g to i ≡ None
  back_free twofold free = by (edge g to i) refl
    where
      by : (o : Option ℕ) → edge g to i ≡ o → o ≡ None
      by None e = refl
      by (Some k) e =
          let was = found.graph to k i e in
          let ids : was.0 ≡ toggled own i = same_Some _ _ (sym was.1 ∙ typed) in
          let back : type_at s k ≡ Some own = was.2 ∙ ap (λ xs. Some (toggled xs i)) ids ∙ ap Some (twice own i up) in
          let same : k ≡ from = found.kinds k from own back (type_there s from there) in
          some_none to (sym (ap (λ j. edge g j i) (sym same) ∙ twofold to k i e) ∙ free)

  -- it is stored, or memory was refused
  pub found_joined : (g' : List (List (Id × ℕ))) {A B : Type 0} (r : Result A B) → OnOk r (Links g g' from i to) → OnErr r (SameEdges g g')
      → IsArchetypes s m l g' ks
  found_joined g' (Ok x) links same =
      found_linked found from to i own links (type_there s from there) typed (twice own i up)
  found_joined g' (Err x) links same = found_unlinked found same
