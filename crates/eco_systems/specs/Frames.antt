-- A frame, and the run of its systems one by one that it is compared with.
use Rattle.std.specs.Prelude.{◌≡◌, ℕ, ◌+◌, ◌<◌, ◌≤◌, ◌↔◌, IsFalse, IsTrue, List, [], ◌∷◌, ◌++◌, length, map, Result}
use Rattle.std.specs.List.{AllByRecursion, range_with_len}
use Rattle.eco_ids.specs.declared.entity.Entity.{Entity}
use Rattle.eco_ids.specs.declared.refusal.Refusal.{Refusal}
use Rattle.eco_ids.specs.Births.{may_admit}
use Rattle.eco_ids.specs.Indices.{admitted}
use Rattle.eco_ids.specs.Layout.{is_distinct}
use Rattle.eco_ids.specs.Order.{entity_cmp, has_item, is_ascending}
use Rattle.eco_ids.specs.Run.{Command, Runs}
use Rattle.eco_ids.specs.World.{WorldState, entities, with_entities}
use Rattle.eco_systems.specs.Batches.{joined, AreBatches}
use Rattle.eco_systems.specs.Phases.{in_order}
use Rattle.eco_systems.specs.Recording.{Records, BatchRecords}
use Rattle.eco_systems.specs.Systems.{SystemModel}

-- one for each command that ran: done, or why not
abbrev pub FrameOutcomes : Type 0
FrameOutcomes = List (Result (Unit {0}) Refusal)

-- the draws of a batch: for each system and each of its pieces a list
abbrev pub BatchDraws : Type 0
BatchDraws = List (List (List Entity))

-- all that was drawn in a batch
abbrev pub all_drawn : BatchDraws → List Entity
all_drawn draws = joined (joined draws)

-- the lists hold every index from the number known on, as many as were drawn, each once, ascending within a piece
pub record AreFresh (known : ℕ) (draws : BatchDraws) : Type 0 where
  pub exact : (e : Entity)
      → IsTrue (has_item entity_cmp (all_drawn draws) e) ↔ ((e.generation ≡ 0) × (known ≤ e.index) × (e.index < known + length (all_drawn draws)))
  pub once : IsTrue (is_distinct (all_drawn draws))
  pub ascending : AllByRecursion (λ d. IsTrue (is_ascending entity_cmp d)) (joined draws)

-- the fresh handle of an index
abbrev pub fresh_entity : ℕ → Entity
fresh_entity n = record { index = n; generation = 0 }

-- those of so many indices, from one on
abbrev pub fresh_from : ℕ → ℕ → List Entity
fresh_from known count = map fresh_entity (range_with_len known count)

-- the draws ascend over all pieces in order, as they do where one worker draws
abbrev pub AreAscending : ℕ → BatchDraws → Type 0
AreAscending known draws = all_drawn draws ≡ fresh_from known (length (all_drawn draws))

-- the world with so many more indices known
abbrev pub with_admitted : ℕ → WorldState → WorldState
with_admitted n w = with_entities w (admitted n (entities w))

-- what both ways have in common at a batch's start: the draws are fresh, and lie below the limit
abbrev pub MayAdmit : WorldState → BatchDraws → Type 0
MayAdmit w draws = AreFresh (length w.indices) draws × IsTrue (may_admit (entities w) (length (all_drawn draws)))

-- a batch is recorded on one world; then the drawn indices are admitted, and all its commands run
abbrev pub BatchRuns : WorldState → List SystemModel → BatchDraws → FrameOutcomes → WorldState → Type 0
BatchRuns w batch draws outcomes new =
    MayAdmit w draws × (commands : List Command) × BatchRecords w batch draws commands × Runs (with_admitted (length (all_drawn draws)) w) commands outcomes new

-- the same, where the draws ascend over all pieces in order
abbrev pub AscendingRuns : WorldState → List SystemModel → BatchDraws → FrameOutcomes → WorldState → Type 0
AscendingRuns w batch draws outcomes new = BatchRuns w batch draws outcomes new × AreAscending (length w.indices) draws

-- each system is recorded on the world that was reached, and run, before the next
abbrev pub OneByOne : WorldState → List SystemModel → BatchDraws → FrameOutcomes → WorldState → Type 0
OneByOne w [] [] outcomes new = (outcomes ≡ []) × (new ≡ w)
OneByOne w [] (d ∷ ds) outcomes new = ⊥
OneByOne w (s ∷ ss) [] outcomes new = ⊥
OneByOne w (s ∷ ss) (d ∷ ds) outcomes new =
    (commands : List Command) × (now : FrameOutcomes) × (later : FrameOutcomes) × (mid : WorldState)
    × Records w s d commands × Runs w commands now mid × OneByOne mid ss ds later new × (outcomes ≡ now ++ later)

-- the drawn indices are admitted first, and then the systems go one by one
abbrev pub BatchRunsSolo : WorldState → List SystemModel → BatchDraws → FrameOutcomes → WorldState → Type 0
BatchRunsSolo w batch draws outcomes new =
    MayAdmit w draws × OneByOne (with_admitted (length (all_drawn draws)) w) batch draws outcomes new

-- batch after batch, each in this way
module _ (Way : WorldState → List SystemModel → BatchDraws → FrameOutcomes → WorldState → Type 0) where
  abbrev pub InTurn : WorldState → List (List SystemModel) → List BatchDraws → FrameOutcomes → WorldState → Type 0
  InTurn w [] [] outcomes new = (outcomes ≡ []) × (new ≡ w)
  InTurn w [] (d ∷ ds) outcomes new = ⊥
  InTurn w (b ∷ bs) [] outcomes new = ⊥
  InTurn w (b ∷ bs) (d ∷ ds) outcomes new =
      (now : FrameOutcomes) × (later : FrameOutcomes) × (mid : WorldState) × Way w b d now mid × InTurn mid bs ds later new × (outcomes ≡ now ++ later)

  -- the batches of the systems as they run, all made on the first world
  abbrev pub Goes : WorldState → List SystemModel → List BatchDraws → FrameOutcomes → WorldState → Type 0
  Goes w systems draws outcomes new = (batches : List (List SystemModel)) × AreBatches w (in_order systems) batches × InTurn w batches draws outcomes new

  -- the same of the first of them, up to a stop: some are left, unless there are none at all
  abbrev pub GoesSoFar : WorldState → List SystemModel → List BatchDraws → FrameOutcomes → WorldState → Type 0
  GoesSoFar w systems draws outcomes new =
      (done : List (List SystemModel)) × (rest : List (List SystemModel)) × AreBatches w (in_order systems) (done ++ rest)
      × InTurn w done draws outcomes new × (rest ≡ [] → done ≡ [])

-- a frame of systems, given in the order of declaration
abbrev pub IsFrame : WorldState → List SystemModel → List BatchDraws → FrameOutcomes → WorldState → Type 0
IsFrame = Goes BatchRuns

-- the run of its systems one by one
abbrev pub IsSolo : WorldState → List SystemModel → List BatchDraws → FrameOutcomes → WorldState → Type 0
IsSolo = Goes BatchRunsSolo

-- a frame of one worker
abbrev pub IsFrameAlone : WorldState → List SystemModel → List BatchDraws → FrameOutcomes → WorldState → Type 0
IsFrameAlone = Goes AscendingRuns

-- a frame that stopped: some of its batches, from the first on, and nothing else
abbrev pub IsFrameSoFar : WorldState → List SystemModel → List BatchDraws → FrameOutcomes → WorldState → Type 0
IsFrameSoFar = GoesSoFar BatchRuns

-- and one by one
abbrev pub IsSoloSoFar : WorldState → List SystemModel → List BatchDraws → FrameOutcomes → WorldState → Type 0
IsSoloSoFar = GoesSoFar BatchRunsSolo

-- the draws of the batch, fresh as they are, would pass the limit
abbrev pub PassesLimit : WorldState → List SystemModel → BatchDraws → Type 0
PassesLimit w batch draws =
    AreFresh (length w.indices) draws × IsFalse (may_admit (entities w) (length (all_drawn draws))) × (commands : List Command) ×
    BatchRecords w batch draws commands

-- a frame that stopped at such a batch: those before it ran, and of it nothing is done
abbrev pub FrameIsStopped : WorldState → List SystemModel → List BatchDraws → FrameOutcomes → WorldState → Type 0
FrameIsStopped w systems draws outcomes new =
    (done : List (List SystemModel)) × (batch : List SystemModel) × (rest : List (List SystemModel)) × (next : BatchDraws)
    × AreBatches w (in_order systems) (done ++ batch ∷ rest) × InTurn BatchRuns w done draws outcomes new × PassesLimit new batch next
