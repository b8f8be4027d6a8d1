-- Loops that put behind a list what each item of another gives.
use Rattle.eco_frame.proofs.BatchesCommon.{◌≡◌, ℕ, ◌+◌, ◌<◌, List, [], ◌∷◌, ◌++◌, length, map, append_assoc, sym, ap, ◌∙◌, get_or}
use Rattle.eco_frame.proofs.BatchesCommon.{take, flat_map, flat_map_more, map_push, take_more, positions_from}
use Rattle.eco_systems.specs.Systems.{SystemModel}
use Rattle.eco_systems.specs.declared.phase.Phase.{Phase}

-- the positions of one phase more
pub phase_more : (systems : List SystemModel) (phases : List Phase) (k : ℕ) (d : Phase) (start old new : List ℕ) → k < length phases →
    old ≡ start ++ flat_map (λ phase. positions_from phase 0 systems) (take k phases) → new ≡ old ++ positions_from (get_or phases k d) 0 systems →
    new ≡ start ++ flat_map (λ phase. positions_from phase 0 systems) (take (k + 1) phases)
phase_more systems phases k d start old new below before more =
    more
    ∙ ap (λ xs. xs ++ positions_from (get_or phases k d) 0 systems) before
    ∙ flat_map_more (λ phase. positions_from phase 0 systems) start (take k phases) (get_or phases k d)
    ∙ ap (λ xs. start ++ flat_map (λ phase. positions_from phase 0 systems) xs) (sym (take_more phases k d below))

-- what one item more gives is behind
pub map_more : {A X : Type 0} (f : A → X) (xs : List A) (k : ℕ) (d : A) (y : X) (start old new : List X) → k < length xs
    → old ≡ start ++ map f (take k xs) → y ≡ f (get_or xs k d) → new ≡ old ++ y ∷ [] → new ≡ start ++ map f (take (k + 1) xs)
map_more f xs k d y start old new below before is more =
    more
    ∙ ap (λ l. l ++ y ∷ []) before
    ∙ append_assoc start (map f (take k xs)) (y ∷ [])
    ∙ ap (λ z. start ++ (map f (take k xs) ++ z ∷ [])) is
    ∙ ap (λ l. start ++ l) (sym (map_push f (take k xs) (get_or xs k d)) ∙ ap (map f) (sym (take_more xs k d below)))
