-- What one worker records: all pieces, one after another, into one stage.
use Rattle.std.specs.Prelude.{◌≡◌, ℕ, ◌-◌, ◌<◌, ◌≤◌, List, [], flat_map, length, get_or, Some}
use Rattle.std.specs.List.{AllZip, concat, range_with_len, slice_get}
use Rattle.eco_ids.specs.Run.{Command}
use Rattle.eco_workers.specs.Batches.{AreStages}

-- what some stages hold, one behind the other
abbrev pub all_of : List (List Command) → List Command
all_of stages = flat_map (λ s. s) stages

module _ {S : Type 0} (commands : S → List ℕ → List Command) (taken : S → List ℕ → ℕ) where
  -- There are draws for each piece, that one behind the other are the n numbers from base on, in turn, and the stage holds the recordings of the pieces with
  -- these, in the pieces' order
  pub record IsInTurn (pieces : List S) (base n : ℕ) (stage : List Command) : Type 0 where
    pub draws : List (List ℕ)
    pub stages : List (List Command)
    pub recorded : AreStages commands taken pieces draws stages
    pub in_turn : concat draws ≡ range_with_len base n
    pub whole : stage ≡ all_of stages

  -- There are draws for each piece, that one behind the other are all numbers from base to below the limit, in turn. Each piece takes at least its draws, and
  -- one takes more
  pub record IsOutInTurn (pieces : List S) (base limit : ℕ) : Type 0 where
    pub draws : List (List ℕ)
    pub shares : AllZip (λ (piece : S) (d : List ℕ). length d ≤ taken piece d) pieces draws
    pub in_turn : concat draws ≡ range_with_len base (limit - base)
    pub short : (k : ℕ) × (piece : S) × (slice_get pieces k ≡ Some piece) × (length (get_or draws k []) < taken piece (get_or draws k []))
