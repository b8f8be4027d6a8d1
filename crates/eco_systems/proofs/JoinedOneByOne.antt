-- Systems that are joined one by one are cut as the batches are.
use Rattle.eco_systems.proofs.Common.{◌≡◌, Bool, true, false, cond, ◌↔◌, List, [], ◌∷◌, ◌++◌, map, refl, sym, ap, ◌∙◌, subst}
use Rattle.eco_systems.proofs.Common.{true≢false, IsTrue, IsFalse, append_assoc, list_any, append-nil, map-append, WorldState, Conflict, AreTogether, AreCut}
use Rattle.eco_systems.proofs.Common.{AreBatches, joined, batched, JoiningMakesBatches, SystemModel, SomeOf}
use Rattle.eco_systems.proofs.Common.{some_exact}

module _ (w : WorldState) (before : List SystemModel) (t : SystemModel) where
  -- nobody of these conflicts with t, which comes after them
  abbrev NoneConflicts : List SystemModel → Type 0
  NoneConflicts ys = SomeOf (λ s. Conflict w (before ++ ys ++ t ∷ []) s t) ys → ⊥

  together_push : (inside batch : List SystemModel) → AreTogether w before inside batch → NoneConflicts (inside ++ batch) →
      AreTogether w before inside (batch ++ t ∷ [])
  together_push inside [] h none = (subst NoneConflicts (append-nil inside) none, tt)
  together_push inside (x ∷ batch) h none =
      (h.0, together_push (inside ++ x ∷ []) batch h.1 (subst NoneConflicts (sym (append_assoc inside (x ∷ []) batch)) none))

module _ {A : Type 0} (w : WorldState) (at : A → SystemModel) (clash : List A → A → A → Bool)
    (exact : (before : List A) (s t : A) → IsTrue (clash before s t) ↔ Conflict w (map at before ++ at t ∷ []) (at s) (at t)) where
  -- the system of t conflicts with that of s, where these come before t
  abbrev Conflicts : List SystemModel → A → SystemModel → Type 0
  Conflicts before t s = Conflict w (before ++ at t ∷ []) s (at t)

  -- one of the batch clashes with t exactly where its system conflicts with that of t
  clash_exact : (before : List A) (t : A) (batch : List A) → IsTrue (list_any (λ s. clash before s t) batch) ↔
      SomeOf (Conflicts (map at before) t) (map at batch)
  clash_exact before t batch = some_exact (λ s. clash before s t) (Conflicts (map at before) t) at (λ s. exact before s t) batch

  -- the first batch goes on from what was there, and all are cut as they must be
  record Goes (done batch rest : List A) (batches : List (List A)) : Type 0 where
    more : List A
    others : List (List A)
    is : batches ≡ (batch ++ more) ∷ others
    all : joined batches ≡ batch ++ rest
    together : AreTogether w (map at done) [] (map at (batch ++ more))
    areCut : AreCut w (map at done ++ map at (batch ++ more)) (map at (batch ++ more)) (map (map at) others)

  -- t opens the next batch
  parted : (done batch : List A) (t : A) (rest : List A) (later : List (List A)) → AreTogether w (map at done) [] (map at batch)
      → IsTrue (list_any (λ s. clash (done ++ batch) s t) batch) → Goes (done ++ batch) (t ∷ []) rest later
      → Goes done batch (t ∷ rest) (batch ∷ later)
  parted done batch t rest later together clashes next = record {
    more = [];
    others = later;
    is = ap (λ b. b ∷ later) (sym (append-nil batch));
    all = ap (λ xs. batch ++ xs) next.all;
    together = subst (λ b. AreTogether w (map at done) [] (map at b)) (sym (append-nil batch)) together;
    areCut = subst (λ b. AreCut w (map at done ++ map at b) (map at b) (map (map at) later)) (sym (append-nil batch))
        (subst (λ bs. AreCut w (map at done ++ map at batch) (map at batch) (map (map at) bs)) (sym next.is) (
          subst (λ xs. SomeOf (Conflicts xs t) (map at batch)) (map-append at done batch) ((clash_exact (done ++ batch) t batch).0 clashes),
          subst (λ xs. AreTogether w xs [] (map at (t ∷ next.more))) (map-append at done batch) next.together,
          subst (λ xs. AreCut w (xs ++ map at (t ∷ next.more)) (map at (t ∷ next.more)) (map (map at) next.others)) (map-append at done batch) next.areCut,
        ));
  }

  -- t joins the open batch
  together_more : (done batch : List A) (t : A) → AreTogether w (map at done) [] (map at batch) → IsFalse (list_any (λ s. clash (done ++ batch) s t) batch)
      → AreTogether w (map at done) [] (map at (batch ++ t ∷ []))
  together_more done batch t together clashes =
      let none : NoneConflicts w (map at done) (at t) (map at batch) = λ h.
      true≢false (sym ((clash_exact (done ++ batch) t batch).1 (subst (λ xs. SomeOf (Conflicts xs t) (map at batch)) (sym (map-append at done batch)) h))
      ∙ clashes) in
      subst (AreTogether w (map at done) []) (sym (map-append at batch (t ∷ []))) (together_push w (map at done) (at t) [] (map at batch) together none)

  extended : (done batch : List A) (t : A) (rest : List A) (batches : List (List A)) → Goes done (batch ++ t ∷ []) rest batches →
      Goes done batch (t ∷ rest) batches
  extended done batch t rest batches next = record {
    more = t ∷ next.more;
    others = next.others;
    is = next.is ∙ ap (λ b. b ∷ next.others) (append_assoc batch (t ∷ []) next.more);
    all = next.all ∙ append_assoc batch (t ∷ []) rest;
    together = subst (λ b. AreTogether w (map at done) [] (map at b)) (append_assoc batch (t ∷ []) next.more) next.together;
    areCut = subst (λ b. AreCut w (map at done ++ map at b) (map at b) (map (map at) next.others)) (append_assoc batch (t ∷ []) next.more) next.areCut;
  }

  goes : (done batch rest : List A) → AreTogether w (map at done) [] (map at batch) → Goes done batch rest (batched clash (done ++ batch) batch rest)
  goes done batch [] together = record {
    more = [];
    others = [];
    is = ap (λ b. b ∷ []) (sym (append-nil batch));
    all = refl;
    together = subst (λ b. AreTogether w (map at done) [] (map at b)) (sym (append-nil batch)) together;
    areCut = tt;
  }
  goes done batch (t ∷ rest) together =
      elim (list_any (λ s. clash (done ++ batch) s t) batch) as (λ c. list_any (λ s. clash (done ++ batch) s t) batch ≡ c → Goes done batch (t ∷ rest)
      (cond c (batch ∷ batched clash ((done ++ batch) ++ t ∷ []) (t ∷ []) rest) (batched clash ((done ++ batch) ++ t ∷ []) (batch ++ t ∷ []) rest))) [
        | true ↦ λ clashes.
            parted done batch t rest (batched clash ((done ++ batch) ++ t ∷ []) (t ∷ []) rest) together clashes
            (goes (done ++ batch) (t ∷ []) rest (λ h. h, tt))
        | false ↦ λ clashes. extended done batch t rest (batched clash ((done ++ batch) ++ t ∷ []) (batch ++ t ∷ []) rest)
            (subst (λ xs. Goes done (batch ++ t ∷ []) rest (batched clash xs (batch ++ t ∷ []) rest)) (sym (append_assoc done batch (t ∷ [])))
            (goes done (batch ++ t ∷ []) rest (together_more done batch t together clashes)))
      ] refl

  map_joined : (xss : List (List A)) → map at (joined xss) ≡ joined (map (map at) xss)
  map_joined [] = refl
  map_joined (xs ∷ xss) = map-append at xs (joined xss) ∙ ap (λ ys. map at xs ++ ys) (map_joined xss)

  first_goes : (first : A) (rest : List A) → Goes [] (first ∷ []) rest (batched clash (first ∷ []) (first ∷ []) rest)
  first_goes first rest = goes [] (first ∷ []) rest (λ h. h, tt)

  -- the first system opens the first batch
  pub batched_are_batches : (first : A) (rest : List A) → AreBatches w (map at (first ∷ rest)) (map (map at) (batched clash [] [] (first ∷ rest)))
  batched_are_batches first rest =
      let next = first_goes first rest in
      subst (λ bs. AreBatches w (map at (first ∷ rest)) (map (map at) bs)) (sym next.is)
      (ap (map at) (sym next.all) ∙ ap (λ bs. map at (joined bs)) next.is ∙ map_joined ((first ∷ next.more) ∷ next.others), next.together, next.areCut)

  -- and no system is left out
  pub batched_are_all : (first : A) (rest : List A) → joined (batched clash [] [] (first ∷ rest)) ≡ first ∷ rest
  batched_are_all first rest = (first_goes first rest).all

-- of positions
pub joining_makes_batches : JoiningMakesBatches
joining_makes_batches w at clash exact first rest = (batched_are_all w at clash exact first rest, batched_are_batches w at clash exact first rest)
