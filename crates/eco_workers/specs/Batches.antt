-- What a batch gives: a stage for each piece, in the order of the pieces.
use Rattle.std.specs.Prelude.{◌≡◌, ℕ, ◌+◌, ◌<◌, ◌≤◌, true, List, [], ◌∷◌, set, length, get_or, Some}
use Rattle.std.specs.List.{All, AllZip, concat, slice_get}
use Rattle.eco_tickets.specs.Counting.{times, once, ascends}
use Rattle.eco_ids.specs.Run.{Command}
use Rattle.eco_workers.specs.declared.collected.Collected.{Collected}
use Rattle.eco_workers.specs.Entries.{IsStage}

-- each stage at the place of its piece's number
abbrev pub placed_stages : List Collected → List (List Command) → List (List Command)
placed_stages [] stages = stages
placed_stages (p ∷ ps) stages = placed_stages ps (set stages p.number p.stage)

module _ {S : Type 0} (commands : S → List ℕ → List Command) (taken : S → List ℕ → ℕ) where
  -- for each piece its draws and its stage, in the same order: the stage is the recording of the piece's rows with these draws, of which nothing is left
  abbrev pub AreStages : List S → List (List ℕ) → List (List Command) → Type 0
  AreStages [] [] [] = Unit {0}
  AreStages (piece ∷ pieces) (mine ∷ draws) (stage ∷ stages) = IsStage commands taken piece mine stage × AreStages pieces draws stages
  AreStages _ _ _ = ⊥

  -- There are draws for each piece, ascending, that together are the n numbers from base on, each once, and the stages are the recordings with these. Of one
  -- worker they ascend over all pieces in order
  pub record IsBatch (workers : ℕ) (pieces : List S) (base n : ℕ) (stages : List (List Command)) : Type 0 where
    pub draws : List (List ℕ)
    pub recorded : AreStages pieces draws stages
    pub ascend : All (λ (d : List ℕ). ascends d ≡ true) draws
    pub each : (x : ℕ) → times x (concat draws) ≡ once base (base + n) x
    pub alone : workers ≡ 1 → ascends (concat draws) ≡ true

  -- There are draws for each piece, that together are all numbers from base to below the limit, each once. Each piece takes at least its draws, and one
  -- takes more
  pub record IsOut (pieces : List S) (base limit : ℕ) : Type 0 where
    pub draws : List (List ℕ)
    pub shares : AllZip (λ (piece : S) (d : List ℕ). length d ≤ taken piece d) pieces draws
    pub each : (x : ℕ) → times x (concat draws) ≡ once base limit x
    pub short : (k : ℕ) × (piece : S) × (slice_get pieces k ≡ Some piece) × (length (get_or draws k []) < taken piece (get_or draws k []))
