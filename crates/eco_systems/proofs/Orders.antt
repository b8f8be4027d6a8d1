-- The order in which systems run, as positions of declaration.
use Rattle.eco_systems.proofs.Common.{◌≡◌, ℕ, suc, ◌+◌, true, false, cond, List, [], ◌∷◌, ◌++◌, map, filter, refl, sym, ap, ◌∙◌}
use Rattle.eco_systems.proofs.Common.{Option, Some, slice_get, arith, flat_map, map-append, in_order, order_of, phases, positions_from, runs_in, SystemModel}
use Rattle.eco_systems.specs.declared.phase.Phase.{Phase}

-- at the positions of a phase stand its systems, where from n on stand `systems`
positions_are : (at : ℕ → Option SystemModel) (phase : Phase) (n : ℕ) (systems : List SystemModel)
    → ((k : ℕ) (s : SystemModel) → slice_get systems k ≡ Some s → at (n + k) ≡ Some s)
    → map at (positions_from phase n systems) ≡ map Some (filter (runs_in phase) systems)
positions_are at phase n [] is = refl
positions_are at phase n (s ∷ systems) is =
    let later = positions_are at phase (n + 1) systems (λ k t h. let e : (n + 1) + k ≡ n + suc k = omega arith in ap at e ∙ is (suc k) t h) in
    let same : n ≡ n + 0 = omega arith in
    elim (runs_in phase s) as (λ b. map at (cond b (n ∷ positions_from phase (n + 1) systems) (positions_from phase (n + 1) systems))
    ≡ map Some (cond b (s ∷ filter (runs_in phase) systems) (filter (runs_in phase) systems))) [
      | true ↦ λ i. (ap at same ∙ is 0 s refl) i ∷ later i
      | false ↦ later
    ]

-- the systems at all positions
pub order_has_systems : (systems : List SystemModel) → map (slice_get systems) (order_of systems) ≡ map Some (in_order systems)
order_has_systems systems = go phases
  where
    here : (k : ℕ) (s : SystemModel) → slice_get systems k ≡ Some s → slice_get systems (0 + k) ≡ Some s
    here k s h = let e : 0 + k ≡ k = omega arith in ap (slice_get systems) e ∙ h

    go : (ps : List Phase) → map (slice_get systems) (flat_map (λ phase. positions_from phase 0 systems) ps)
        ≡ map Some (flat_map (λ phase. filter (runs_in phase) systems) ps)
    go [] = refl
    go (phase ∷ ps) =
        map-append (slice_get systems) (positions_from phase 0 systems) (flat_map (λ phase. positions_from phase 0 systems) ps)
        ∙ (λ i. positions_are (slice_get systems) phase 0 systems here i ++ go ps i)
        ∙ sym (map-append Some (filter (runs_in phase) systems) (flat_map (λ phase. filter (runs_in phase) systems) ps))
