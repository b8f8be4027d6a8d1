-- A frame that stopped has batches left, unless its systems have none.
use Rattle.eco_systems.proofs.Common.{◌≡◌, ℕ, suc, ◌<◌, ◌⊎◌, inl, inr, List, [], ◌∷◌, ◌++◌, length, refl, ap, ◌∙◌, arith}
use Rattle.eco_systems.proofs.Common.{append-nil, length-append, WorldState, BatchDraws, InTurn, FrameOutcomes, StoppedHaveMore, in_order, SystemModel}
use Rattle.eco_systems.proofs.OneCut.{batches_unique}

-- each batch that ran has its draws
as_long : (Way : WorldState → List SystemModel → BatchDraws → FrameOutcomes → WorldState → Type 0) (done : List (List SystemModel)) (w : WorldState)
    (draws : List BatchDraws) (outcomes : FrameOutcomes) (new : WorldState) → InTurn Way w done draws outcomes new → length draws ≡ length done
as_long Way [] w [] outcomes new h = refl
as_long Way (b ∷ bs) w (d ∷ ds) outcomes new h = ap suc (as_long Way bs h.2 ds h.1 new h.4)
as_long Way _ w _ outcomes new h = absurd h

left : (done rest batches : List (List SystemModel)) (count : ℕ) → batches ≡ done ++ rest → (rest ≡ [] → done ≡ []) → count ≡ length done
    → (batches ≡ []) ⊎ (count < length batches)
left done [] batches count is none long = inl (is ∙ append-nil done ∙ none refl)
left done (b ∷ bs) batches count is none long = inr (omega (arith, long, ap length is ∙ length-append done (b ∷ bs)))

pub stopped_have_more : StoppedHaveMore
stopped_have_more w systems draws outcomes new batches h cut =
    left h.0 h.1 batches (length draws) (batches_unique w (in_order systems) batches (h.0 ++ h.1) cut h.2) h.4 (as_long _ h.0 w draws outcomes new h.3)
