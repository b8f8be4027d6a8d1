-- The items that pass a test, so far: one more item is behind them, or is passed over.
use Rattle.eco_index.proofs.EntriesCommon.{◌≡◌, ℕ, ◌+◌, ◌<◌, Bool, true, false, cond, List, [], ◌∷◌, ◌++◌, length, get_or, take, map}
use Rattle.eco_index.proofs.EntriesCommon.{Option, Some, sym, ap, ◌∙◌, append_assoc, filter, append-nil, map-append, filter_more}

module _ {X : Type 0} (p : X → Bool) (xs : List X) (i : ℕ) (d : X) (base old new : List (Option X)) (here : i < length xs)
    (so_far : old ≡ base ++ map Some (filter p (take i xs))) where
  step : (b : Bool) → p (get_or xs i d) ≡ b → new ≡ old ++ map Some (cond b (get_or xs i d ∷ []) []) → new ≡ base ++ map Some (filter p (take (i + 1) xs))
  step b is added =
      added
      ∙ ap (λ zs. zs ++ map Some (cond b (get_or xs i d ∷ []) [])) so_far
      ∙ append_assoc base (map Some (filter p (take i xs))) (map Some (cond b (get_or xs i d ∷ []) []))
      ∙ ap (λ zs. base ++ zs) (sym (map-append Some (filter p (take i xs)) (cond b (get_or xs i d ∷ []) [])))
      ∙ ap (λ c. base ++ map Some (filter p (take i xs) ++ cond c (get_or xs i d ∷ []) [])) (sym is)
      ∙ ap (λ zs. base ++ map Some zs) (sym (filter_more p xs i d here))

  pub filtered_in : p (get_or xs i d) ≡ true → new ≡ old ++ Some (get_or xs i d) ∷ [] → new ≡ base ++ map Some (filter p (take (i + 1) xs))
  filtered_in is added = step true is added

  pub filtered_out : p (get_or xs i d) ≡ false → new ≡ old → new ≡ base ++ map Some (filter p (take (i + 1) xs))
  filtered_out is same = step false is (same ∙ sym (append-nil old))
