-- There is one way to cut systems into batches.
use Rattle.eco_systems.proofs.Common.{◌≡◌, List, [], ◌∷◌, ◌++◌, refl, sym, ap, ◌∙◌, subst, append-nil, append_assoc, WorldState, Conflict}
use Rattle.eco_systems.proofs.Common.{AreTogether, AreCut, AreBatches, joined, SystemModel, SomeOf}

-- ---- lists that are equal begin alike

abbrev IsLong : {A : Type 0} → List A → Type 0
IsLong [] = ⊥
IsLong (x ∷ xs) = Unit {0}

not_empty : {A : Type 0} (x : A) (xs : List A) → [] ≡ x ∷ xs → ⊥
not_empty x xs e = subst IsLong (sym e) tt

abbrev first_or : {A : Type 0} → A → List A → A
first_or d [] = d
first_or d (x ∷ xs) = x

abbrev others : {A : Type 0} → List A → List A
others [] = []
others (x ∷ xs) = xs

module _ (w : WorldState) where
  -- what is said of the rest of the open batch, and of the batches after it
  record Rest (before inside rest : List SystemModel) (batches : List (List SystemModel)) : Type 0 where
    together : AreTogether w before inside rest
    later : AreCut w (before ++ (inside ++ rest)) (inside ++ rest) batches

  -- a system can't both join the open batch and open the next
  not_both_ways : (before inside : List SystemModel) (t u : SystemModel) → t ≡ u →
      SomeOf (λ s. Conflict w (before ++ (inside ++ []) ++ t ∷ []) s t) (inside ++ []) →
      (SomeOf (λ s. Conflict w (before ++ inside ++ u ∷ []) s u) inside → ⊥) → ⊥
  not_both_ways before inside t u e parted together =
      together (subst (λ v. SomeOf (λ s. Conflict w (before ++ inside ++ v ∷ []) s v) inside) e
      (subst (λ xs. SomeOf (λ s. Conflict w (before ++ xs ++ t ∷ []) s t) xs) (append-nil inside) parted))

  push : (before inside : List SystemModel) (a : SystemModel) (r : List SystemModel) (bs : List (List SystemModel)) → Rest before inside (a ∷ r) bs →
      Rest before (inside ++ a ∷ []) r bs
  push before inside a r bs x = record {
    together = (x.together).1;
    later = subst (λ xs. AreCut w (before ++ xs) xs bs) (sym (append_assoc inside (a ∷ []) r)) x.later;
  }

  enter : (before inside : List SystemModel) (a : SystemModel) (b : List SystemModel) (bs : List (List SystemModel)) →
      Rest before inside [] ((a ∷ b) ∷ bs) →
      Rest (before ++ (inside ++ [])) (a ∷ []) b bs
  enter before inside a b bs x = record { together = ((x.later).1).1; later = (x.later).2 }

  abbrev Same : List SystemModel → List (List SystemModel) → List SystemModel → List (List SystemModel) → Type 0
  Same rest batches rest' batches' = (rest ≡ rest') × (batches ≡ batches')

  one_cut : (all before inside rest rest' : List SystemModel) (batches batches' : List (List SystemModel)) → all ≡ rest ++ joined batches →
      all ≡ rest' ++ joined batches'
      → Rest before inside rest batches → Rest before inside rest' batches' → Same rest batches rest' batches'
  one_cut [] before inside [] [] [] [] p q x y = (refl, refl)
  one_cut [] before inside (t ∷ r) rest' bs bs' p q x y = absurd (not_empty t (r ++ joined bs) p)
  one_cut [] before inside [] (t ∷ r) bs bs' p q x y = absurd (not_empty t (r ++ joined bs') q)
  one_cut [] before inside [] [] ((t ∷ b) ∷ bs) bs' p q x y = absurd (not_empty t (b ++ joined bs) p)
  one_cut [] before inside [] [] ([] ∷ bs) bs' p q x y = absurd ((x.later).0)
  one_cut [] before inside [] [] [] ((t ∷ b) ∷ bs) p q x y = absurd (not_empty t (b ++ joined bs) q)
  one_cut [] before inside [] [] [] ([] ∷ bs) p q x y = absurd ((y.later).0)
  one_cut (a ∷ all) before inside [] rest' [] bs' p q x y = absurd (not_empty a all (sym p))
  one_cut (a ∷ all) before inside rest [] bs [] p q x y = absurd (not_empty a all (sym q))
  one_cut (a ∷ all) before inside [] rest' ([] ∷ bs) bs' p q x y = absurd ((x.later).0)
  one_cut (a ∷ all) before inside rest [] bs ([] ∷ bs') p q x y = absurd ((y.later).0)
  one_cut (a ∷ all) before inside [] (u ∷ r') ((t ∷ b) ∷ bs) bs' p q x y =
      absurd (not_both_ways before inside t u (sym (ap (first_or a) p) ∙ ap (first_or a) q) (x.later).0 (y.together).0)
  one_cut (a ∷ all) before inside (t ∷ r) [] bs ((u ∷ b') ∷ bs') p q x y =
      absurd (not_both_ways before inside u t (sym (ap (first_or a) q) ∙ ap (first_or a) p) (y.later).0 (x.together).0)
  one_cut (a ∷ all) before inside (t ∷ r) (u ∷ r') bs bs' p q x y =
      let t_is : t ≡ a = sym (ap (first_or a) p) in
      let u_is : u ≡ a = sym (ap (first_or a) q) in
      let x' : Rest before inside (a ∷ r) bs = subst (λ v. Rest before inside (v ∷ r) bs) t_is x in
      let y' : Rest before inside (a ∷ r') bs' = subst (λ v. Rest before inside (v ∷ r') bs') u_is y in
      let same = one_cut all before (inside ++ a ∷ []) r r' bs bs' (ap others p) (ap others q) (push before inside a r bs x')
      (push before inside a r' bs' y') in
      (λ i. (t_is ∙ sym u_is) i ∷ same.0 i, same.1)
  one_cut (a ∷ all) before inside [] [] ((t ∷ b) ∷ bs) ((u ∷ b') ∷ bs') p q x y =
      let t_is : t ≡ a = sym (ap (first_or a) p) in
      let u_is : u ≡ a = sym (ap (first_or a) q) in
      let x' : Rest before inside [] ((a ∷ b) ∷ bs) = subst (λ v. Rest before inside [] ((v ∷ b) ∷ bs)) t_is x in
      let y' : Rest before inside [] ((a ∷ b') ∷ bs') = subst (λ v. Rest before inside [] ((v ∷ b') ∷ bs')) u_is y in
      let same = one_cut all (before ++ (inside ++ [])) (a ∷ []) b b' bs bs' (ap others p) (ap others q) (enter before inside a b bs x')
      (enter before inside a b' bs' y') in
      (refl, λ i. ((t_is ∙ sym u_is) i ∷ same.0 i) ∷ same.1 i)

  -- two ways to cut the same systems are one
  pub batches_unique : (systems : List SystemModel) (xs ys : List (List SystemModel)) → AreBatches w systems xs → AreBatches w systems ys → xs ≡ ys
  batches_unique systems [] [] p q = refl
  batches_unique systems ([] ∷ bs) ys p q = absurd p
  batches_unique systems xs ([] ∷ bs) p q = absurd q
  batches_unique systems [] ((u ∷ b') ∷ bs') p q = absurd (not_empty u (b' ++ joined bs') (sym p ∙ q.0))
  batches_unique systems ((t ∷ b) ∷ bs) [] p q = absurd (not_empty t (b ++ joined bs) (sym q ∙ p.0))
  batches_unique systems ((t ∷ b) ∷ bs) ((u ∷ b') ∷ bs') p q =
      let first_is : u ≡ t = ap (first_or t) (sym q.0 ∙ p.0) in
      let q' : AreBatches w systems ((t ∷ b') ∷ bs') = subst (λ v. AreBatches w systems ((v ∷ b') ∷ bs')) first_is q in
      let same = one_cut (b ++ joined bs) [] (t ∷ []) b b' bs bs' refl (ap others (sym p.0 ∙ q'.0)) (record { together = (p.1).1; later = p.2 })
      (record { together = (q'.1).1; later = q'.2 }) in
      λ i. (sym first_is i ∷ same.0 i) ∷ same.1 i
