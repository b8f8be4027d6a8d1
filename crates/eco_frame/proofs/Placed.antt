-- The batches of declared systems are those of the systems.
use Rattle.eco_frame.proofs.Common.{◌≡◌, ℕ, zero, suc, ◌+◌, ◌==◌, List, [], ◌∷◌, ◌++◌, Some, refl, sym, ap, ◌∙◌, map}
use Rattle.eco_frame.proofs.Common.{if◌then◌else◌, slice_get, unwrap_or, flat_map, AllZip, map-append, WorldState, joined, OrderHasSystems, in_order}
use Rattle.eco_frame.proofs.Common.{order_of, phases, positions_from, phase_rank, SystemModel, ArePlacedBatches, system_at, system_of, systems_of, Declared}
use Rattle.eco_frame.proofs.Common.{ArePlaced, Declares, model_at}
use Rattle.eco_ids.proofs.Further.{found_at}
use Rattle.eco_systems.specs.declared.phase.Phase.{Phase}
use Rattle.eco_frame.proofs.Alike.{Alike, Same, same_batches}

joined_map : (at : ℕ → SystemModel) (places : List (List ℕ)) → map at (joined places) ≡ joined (map (map at) places)
joined_map at [] = refl
joined_map at (p ∷ ps) = map-append at p (joined ps) ∙ ap (λ l. map at p ++ l) (joined_map at ps)

model_there : (systems : List SystemModel) (k : ℕ) (s : SystemModel) → slice_get systems k ≡ Some s → model_at systems k ≡ s
model_there systems k s h = ap (λ o. unwrap_or o (model_at [] 0)) h

whole : OrderHasSystems → (systems : List SystemModel) (places : List (List ℕ)) → joined places ≡ order_of systems
    → in_order systems ≡ joined (map (map (model_at systems)) places)
whole has systems places h =
    sym (found_at (slice_get systems) (model_at systems) (model_there systems) (order_of systems) (in_order systems) (has systems))
    ∙ ap (map (model_at systems)) (sym h) ∙ joined_map (model_at systems) places

same_of : (s : SystemModel) (d : Declared) → Declares s d → Same (system_of d) s
same_of s d h = record { phase = h.phase; reads = h.reads; writes = h.writes; kills = h.kills }

same_at : (ss : List SystemModel) (ds : List Declared) → AllZip Declares ss ds → (k : ℕ) → Same (system_at ds k) (model_at ss k)
same_at [] [] h k = record { phase = refl; reads = refl; writes = refl; kills = refl }
same_at [] (d ∷ ds) h k = absurd h
same_at (s ∷ ss) [] h k = absurd h
same_at (s ∷ ss) (d ∷ ds) h zero = same_of s d h.0
same_at (s ∷ ss) (d ∷ ds) h (suc k) = same_at ss ds h.1 k

positions : (phase : Phase) (n : ℕ) (ss : List SystemModel) (ds : List Declared) → AllZip Declares ss ds
    → positions_from phase n (systems_of ds) ≡ positions_from phase n ss
positions phase n [] [] h = refl
positions phase n [] (d ∷ ds) h = absurd h
positions phase n (s ∷ ss) [] h = absurd h
positions phase n (s ∷ ss) (d ∷ ds) h =
    let later = positions phase (n + 1) ss ds h.1 in
    ap (λ p. if phase_rank p == phase_rank phase then n ∷ positions_from phase (n + 1) (systems_of ds) else positions_from phase (n + 1)
    (systems_of ds)) h.0.phase
    ∙ ap (λ l. if phase_rank s.phase == phase_rank phase then n ∷ l else l) later

orders : (ss : List SystemModel) (ds : List Declared) → AllZip Declares ss ds → order_of (systems_of ds) ≡ order_of ss
orders ss ds h = go phases
  where
    go : (ps : List Phase) → flat_map (λ phase. positions_from phase 0 (systems_of ds)) ps ≡ flat_map (λ phase. positions_from phase 0 ss) ps
    go [] = refl
    go (phase ∷ ps) = λ i. positions phase 0 ss ds h i ++ go ps i

module _ (at others : ℕ → SystemModel) (same : (k : ℕ) → Same (at k) (others k)) where
  alike : (ks : List ℕ) → Alike (map at ks) (map others ks)
  alike [] = tt
  alike (k ∷ ks) = (same k, alike ks)

  all_alike : (places : List (List ℕ)) → AllZip Alike (map (map at) places) (map (map others) places)
  all_alike [] = tt
  all_alike (p ∷ ps) = (alike p, all_alike ps)

-- the batches of what some systems declare are theirs
pub placed : OrderHasSystems → (w : WorldState) (ss : List SystemModel) (ds : List Declared) (places : List (List ℕ)) → AllZip Declares ss ds
    → ArePlacedBatches w ds places → ArePlaced w ss places
placed has w ss ds places h p =
    let order = p.0 ∙ orders ss ds h in (
      order,
      same_batches w (in_order (systems_of ds)) (in_order ss) _ _ (whole has ss places order)
          (all_alike (system_at ds) (model_at ss) (same_at ss ds h) places) p.1,
    )

zip_map : {A : Type 0} (f : A → SystemModel) (xs : List A) (ds : List Declared) → AllZip (λ s d. Declares (f s) d) xs ds → AllZip Declares (map f xs) ds
zip_map f [] [] h = h
zip_map f [] (d ∷ ds) h = absurd h
zip_map f (x ∷ xs) [] h = absurd h
zip_map f (x ∷ xs) (d ∷ ds) h = (h.0, zip_map f xs ds h.1)

-- the same of things that stand for systems
pub placed_of : OrderHasSystems → {A : Type 0} (f : A → SystemModel) (w : WorldState) (xs : List A) (ds : List Declared) (places : List (List ℕ))
    → AllZip (λ s d. Declares (f s) d) xs ds → ArePlacedBatches w ds places → ArePlaced w (map f xs) places
placed_of has f w xs ds places h = placed has w (map f xs) ds places (zip_map f xs ds h)
