-- The pieces of a batch, grouped by system: their draws and their stages are grouped in the same way.
use Rattle.eco_frame.proofs.Common.{◌≡◌, ℕ, List, [], ◌∷◌, ◌++◌, map, refl, sym, ap, ◌∙◌, map-append, Command, joined, AreStages}

pub joined_map : {A B : Type 0} (f : A → B) (xss : List (List A)) → joined (map (map f) xss) ≡ map f (joined xss)
joined_map f [] = refl
joined_map f (xs ∷ xss) = ap (λ l. map f xs ++ l) (joined_map f xss) ∙ sym (map-append f xs (joined xss))

module _ {S : Type 0} (commands : S → List ℕ → List Command) (taken : S → List ℕ → ℕ) where
  -- for each system its pieces, with their draws and their stages
  abbrev pub AreGrouped : List (List S) → List (List (List ℕ)) → List (List (List Command)) → Type 0
  AreGrouped [] [] [] = Unit {0}
  AreGrouped (pieces ∷ xss) (mine ∷ owns) (stages ∷ stagess) = AreStages commands taken pieces mine stages × AreGrouped xss owns stagess
  AreGrouped _ _ _ = ⊥

  abbrev pub Grouped : List (List S) → List (List ℕ) → List (List Command) → Type 0
  Grouped xss own stages =
      (owns : List (List (List ℕ))) × (stagess : List (List (List Command))) × (joined owns ≡ own) × (joined stagess ≡ stages)
      × AreGrouped xss owns stagess

  -- the pieces of the first system are the first ones
  abbrev Parted : List S → List S → List (List ℕ) → List (List Command) → Type 0
  Parted xs ys own stages =
      (d : List (List ℕ)) × (ds : List (List ℕ)) × (s : List (List Command)) × (ss : List (List Command))
      × (d ++ ds ≡ own) × (s ++ ss ≡ stages) × AreStages commands taken xs d s × AreStages commands taken ys ds ss

  parted : (xs ys : List S) (own : List (List ℕ)) (stages : List (List Command)) → AreStages commands taken (xs ++ ys) own stages
      → Parted xs ys own stages
  parted [] ys own stages h = ([], own, [], stages, refl, refl, tt, h)
  parted (x ∷ xs) ys [] stages h = absurd h
  parted (x ∷ xs) ys (d ∷ own) [] h = absurd h
  parted (x ∷ xs) ys (d ∷ own) (s ∷ stages) h =
      let p = parted xs ys own stages h.1 in
      (d ∷ p.0, p.1, s ∷ p.2, p.3, ap (λ l. d ∷ l) p.4, ap (λ l. s ∷ l) p.5, (h.0, p.6), p.7)

  pub grouped : (xss : List (List S)) (own : List (List ℕ)) (stages : List (List Command)) → AreStages commands taken (joined xss) own stages
      → Grouped xss own stages
  grouped [] [] [] h = ([], [], refl, refl, tt)
  grouped [] [] (s ∷ stages) h = absurd h
  grouped [] (d ∷ own) stages h = absurd h
  grouped (xs ∷ xss) own stages h =
      let p = parted xs (joined xss) own stages h in
      let g = grouped xss p.1 p.3 p.7 in
      (p.0 ∷ g.0, p.2 ∷ g.1, ap (λ l. p.0 ++ l) g.2 ∙ p.4, ap (λ l. p.2 ++ l) g.3 ∙ p.5, (p.6, g.4))
