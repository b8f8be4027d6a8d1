-- Systems that declare the same have the same batches.
use Rattle.eco_frame.proofs.Common.{◌≡◌, List, [], ◌∷◌, ◌++◌, inl, inr, IsTrue, sym, subst, AllZip, list_any, WorldState, joined, AreBatches}
use Rattle.eco_frame.proofs.Common.{AreCut, AreTogether, Conflict, IsParted, SystemModel, system_reads}
use Rattle.eco_ids.specs.Least.{SomeOf}
use Rattle.eco_ids.specs.Matching.{pattern_overlaps}
use Rattle.eco_systems.specs.Writes.{IsClosedWrite, IsTraitWriter}

-- they declare the same
pub record Same (s t : SystemModel) : Type 0 where
  pub phase : s.phase ≡ t.phase
  pub reads : system_reads s ≡ system_reads t
  pub writes : s.writes ≡ t.writes
  pub kills : s.kills ≡ t.kills

abbrev pub Alike : List SystemModel → List SystemModel → Type 0
Alike = AllZip Same

back : (s t : SystemModel) → Same s t → Same t s
back s t h = record { phase = sym h.phase; reads = sym h.reads; writes = sym h.writes; kills = sym h.kills }

alike_back : (xs ys : List SystemModel) → Alike xs ys → Alike ys xs
alike_back [] [] h = tt
alike_back [] (y ∷ ys) h = absurd h
alike_back (x ∷ xs) [] h = absurd h
alike_back (x ∷ xs) (y ∷ ys) h = (back x y h.0, alike_back xs ys h.1)

alike_append : (xs ys us vs : List SystemModel) → Alike xs ys → Alike us vs → Alike (xs ++ us) (ys ++ vs)
alike_append [] [] us vs h k = k
alike_append [] (y ∷ ys) us vs h k = absurd h
alike_append (x ∷ xs) [] us vs h k = absurd h
alike_append (x ∷ xs) (y ∷ ys) us vs h k = (h.0, alike_append xs ys us vs h.1 k)

some : (P Q : SystemModel → Type 0) → ((s t : SystemModel) → Same s t → P s → Q t)
    → (xs ys : List SystemModel) → Alike xs ys → SomeOf P xs → SomeOf Q ys
some P Q f [] ys a h = absurd h
some P Q f (x ∷ xs) [] a h = absurd a
some P Q f (x ∷ xs) (y ∷ ys) a (inl h) = inl (f x y a.0 h)
some P Q f (x ∷ xs) (y ∷ ys) a (inr h) = inr (some P Q f xs ys a.1 h)

module _ (w : WorldState) where
  writer : (s t : SystemModel) → Same s t → IsTraitWriter w s → IsTraitWriter w t
  writer s t e h = (h.0, subst (λ ws. IsClosedWrite w ws h.0) e.writes h.1, h.2)

  conflict : (until others : List SystemModel) (s s' t t' : SystemModel) → Alike until others → Same s s' → Same t t'
      → Conflict w until s t → Conflict w others s' t'
  conflict until others s s' t t' a e f (inl h) = inl (subst IsTrue e.kills h)
  conflict until others s s' t t' a e f (inr (inl h)) = inr (inl (subst IsTrue f.kills h))
  conflict until others s s' t t' a e f (inr (inr (inl h))) = inr (inr (inl (some (IsTraitWriter w) (IsTraitWriter w) writer until others a h)))
  conflict until others s s' t t' a e f (inr (inr (inr h))) =
      inr (inr (inr (h.0, subst (λ ws. IsClosedWrite w ws h.0) e.writes h.1, subst (λ rs. IsTrue (list_any (pattern_overlaps h.0) rs)) f.reads h.2)))

  conflicts : (until others xs ys : List SystemModel) (t t' : SystemModel) → Alike until others → Alike xs ys → Same t t'
      → SomeOf (λ s. Conflict w until s t) xs → SomeOf (λ s. Conflict w others s t') ys
  conflicts until others xs ys t t' a b f =
      some (λ s. Conflict w until s t) (λ s. Conflict w others s t') (λ s s' e. conflict until others s s' t t' a e f) xs ys b

  together : (before others inside those batch same : List SystemModel) → Alike before others → Alike inside those → Alike batch same
      → AreTogether w before inside batch → AreTogether w others those same
  together before others inside those [] [] a b c h = tt
  together before others inside those [] (y ∷ ys) a b c h = absurd c
  together before others inside those (x ∷ xs) [] a b c h = absurd c
  together before others inside those (x ∷ xs) (y ∷ ys) a b c h =
      let until = alike_append (before ++ inside) (others ++ those) (x ∷ []) (y ∷ []) (alike_append before others inside those a b) (c.0, tt) in
      let inside_more = alike_append inside those (x ∷ []) (y ∷ []) b (c.0, tt) in (
        (λ k. h.0 (conflicts _ _ those inside y x (alike_back _ _ until) (alike_back inside those b) (back x y c.0) k)),
        together before others (inside ++ x ∷ []) (those ++ y ∷ []) xs ys a inside_more c.1 h.1,
      )

  parted : (before others last ends batch same : List SystemModel) → Alike before others → Alike last ends → Alike batch same
      → IsParted w before last batch → IsParted w others ends same
  parted before others last ends [] same a b c h = absurd h
  parted before others last ends (x ∷ xs) [] a b c h = absurd c
  parted before others last ends (x ∷ xs) (y ∷ ys) a b c h =
      conflicts _ _ last ends x y (alike_append before others (x ∷ []) (y ∷ []) a (c.0, tt)) b c.0 h

  cut : (before others last ends : List SystemModel) (batches sames : List (List SystemModel))
      → Alike before others → Alike last ends → AllZip Alike batches sames
      → AreCut w before last batches → AreCut w others ends sames
  cut before others last ends [] [] a b c h = tt
  cut before others last ends [] (y ∷ ys) a b c h = absurd c
  cut before others last ends (x ∷ xs) [] a b c h = absurd c
  cut before others last ends (x ∷ xs) (y ∷ ys) a b c h = (
    parted before others last ends x y a b c.0 h.0,
    together before others [] [] x y a tt c.0 h.1,
    cut (before ++ x) (others ++ y) x y xs ys (alike_append before others x y a c.0) c.0 c.1 h.2,
  )

  -- batches of systems that declare the same
  pub same_batches : (systems others : List SystemModel) (batches sames : List (List SystemModel)) → others ≡ joined sames → AllZip Alike batches sames
      → AreBatches w systems batches → AreBatches w others sames
  same_batches systems others [] [] whole a h = whole
  same_batches systems others [] (y ∷ ys) whole a h = absurd a
  same_batches systems others ([] ∷ xs) sames whole a h = absurd h
  same_batches systems others ((s ∷ x) ∷ xs) [] whole a h = absurd a
  same_batches systems others ((s ∷ x) ∷ xs) ([] ∷ ys) whole a h = absurd a.0
  same_batches systems others ((s ∷ x) ∷ xs) ((t ∷ y) ∷ ys) whole a h =
      (whole, together [] [] [] [] (s ∷ x) (t ∷ y) tt tt a.0 h.1, cut (s ∷ x) (t ∷ y) (s ∷ x) (t ∷ y) xs ys a.0 a.0 a.1 h.2)
