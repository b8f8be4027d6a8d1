-- A lawful world has a frame of systems whose rows take some draws, or one that stops where the draws would pass the limit.
use Rattle.eco_systems.proofs.Common.{◌≡◌, ℕ, ◌+◌, Bool, true, false, List, [], ◌∷◌, ◌++◌, length, refl, sym, ap, ◌∙◌, subst}
use Rattle.eco_systems.proofs.Common.{◌⊎◌, inl, inr, AllByRecursion, append-nil, Entity, may_admit, IsLawful, Command, WorldState, entities, runs_lawful}
use Rattle.eco_systems.proofs.Common.{AreBatches, joined, BatchDraws, BatchRuns, InTurn, IsFrame, FrameIsStopped, FrameOutcomes, PassesLimit, all_drawn}
use Rattle.eco_systems.proofs.Common.{fresh_from, with_admitted, AreFresh, FramesExist, TakesSome, in_order, BatchRecords, PiecesRecord, RowsRecord, pieces_of}
use Rattle.eco_systems.proofs.Common.{ValuedRow, valued_rows, SystemModel}
use Rattle.eco_systems.proofs.BatchesExist.{batches_of}
use Rattle.eco_systems.proofs.Frames.{all_in_order, all_joined, lawful_admitted}
use Rattle.eco_systems.proofs.FreshDraws.{ascending_are_fresh, fresh_length, fresh_split}
use Rattle.eco_systems.proofs.Lists.{joined_append}
use Rattle.eco_systems.proofs.RunsEnd.{runs_end}

-- ---- how many draws rows, pieces and systems take, and that they take as many fresh ones

module _ (s : SystemModel) (some : TakesSome s) where
  abbrev RowsTake : List ValuedRow → Type 0
  RowsTake rows = (count : ℕ) × ((start : ℕ) → (commands : List Command) × RowsRecord s rows (fresh_from start count) commands)

  rows_take : (rows : List ValuedRow) → RowsTake rows
  rows_take [] = (0, λ start. ([], (refl, refl)))
  rows_take (row ∷ rows) =
      let mine = some row in
      let rest = rows_take rows in (
        mine.0 + rest.0,
        λ start.
            let later = rest.1 (start + mine.0) in
            let own : List Entity = fresh_from start mine.0 in (
              s.records row own ++ later.0,
              (
                own,
                fresh_from (start + mine.0) rest.0,
                later.0,
                mine.1 own (fresh_length start mine.0),
                later.1,
                fresh_split start mine.0 rest.0,
                refl,
              ),
            ),
      )

  abbrev PiecesTake : List (List ValuedRow) → Type 0
  PiecesTake pieces = (count : ℕ) × ((start : ℕ) → (draws : List (List Entity)) × (commands : List Command)
      × PiecesRecord s pieces draws commands × (joined draws ≡ fresh_from start count))

  pieces_take : (pieces : List (List ValuedRow)) → PiecesTake pieces
  pieces_take [] = (0, λ start. ([], [], refl, refl))
  pieces_take (piece ∷ pieces) =
      let one = rows_take piece in
      let rest = pieces_take pieces in (
        one.0 + rest.0,
        λ start.
            let now = one.1 start in
            let later = rest.1 (start + one.0) in (
              fresh_from start one.0 ∷ later.0,
              now.0 ++ later.1,
              (now.0, later.1, now.1, later.2, refl),
              ap (λ xs. fresh_from start one.0 ++ xs) later.3 ∙ sym (fresh_split start one.0 rest.0),
            ),
      )

module _ (w : WorldState) where
  abbrev BatchTakes : List SystemModel → Type 0
  BatchTakes batch = (count : ℕ) × ((start : ℕ) → (draws : BatchDraws) × (commands : List Command)
      × BatchRecords w batch draws commands × (all_drawn draws ≡ fresh_from start count))

  batch_takes : (batch : List SystemModel) → AllByRecursion TakesSome batch → BatchTakes batch
  batch_takes [] some = (0, λ start. ([], [], refl, refl))
  batch_takes (s ∷ batch) some =
      let one = pieces_take s some.0 (pieces_of (valued_rows w s.slots)) in
      let rest = batch_takes batch some.1 in (
        one.0 + rest.0,
        λ start.
            let now = one.1 start in
            let later = rest.1 (start + one.0) in (
              now.0 ∷ later.0,
              now.1 ++ later.1,
              (now.1, later.1, now.2, later.2, refl),
              joined_append now.0 (joined later.0) ∙ (λ i. now.3 i ++ later.3 i) ∙ sym (fresh_split start one.0 rest.0),
            ),
      )

  -- ---- a batch runs, or its draws would pass the limit

  abbrev Runs : List SystemModel → Type 0
  Runs batch = (draws : BatchDraws) × (outcomes : FrameOutcomes) × (new : WorldState) × BatchRuns w batch draws outcomes new × IsLawful new

  batch_ends : (batch : List SystemModel) → IsLawful w → AllByRecursion TakesSome batch
      → Runs batch ⊎ ((draws : BatchDraws) × PassesLimit w batch draws)
  batch_ends batch l some = by (may_admit (entities w) (length (all_drawn draws))) refl
    where
      taken : BatchTakes batch
      taken = batch_takes batch some

      draws : BatchDraws
      draws = (taken.1 (length w.indices)).0

      commands : List Command
      commands = (taken.1 (length w.indices)).1

      records : BatchRecords w batch draws commands
      records = (taken.1 (length w.indices)).2

      are : all_drawn draws ≡ fresh_from (length w.indices) taken.0
      are = (taken.1 (length w.indices)).3

      fresh : AreFresh (length w.indices) draws
      fresh = ascending_are_fresh (length w.indices) draws
          (are ∙ ap (fresh_from (length w.indices)) (sym (ap length are ∙ fresh_length (length w.indices) taken.0)))

      by : (b : Bool) → may_admit (entities w) (length (all_drawn draws)) ≡ b → Runs batch ⊎ ((draws : BatchDraws) × PassesLimit w batch draws)
      by true room =
          let m : IsLawful (with_admitted (length (all_drawn draws)) w) = lawful_admitted w (length (all_drawn draws)) room l in
          let run = runs_end commands (with_admitted (length (all_drawn draws)) w) m in
          inl (
            draws,
            run.0,
            run.1,
            ((fresh, room), commands, records, run.2),
            runs_lawful commands (with_admitted (length (all_drawn draws)) w) run.0 run.1 m
                run.2,
          )
      by false room = inr (draws, (fresh, room, commands, records))

-- ---- batch after batch

-- the next batch, if there is one, would pass the limit
abbrev Stops : WorldState → List (List SystemModel) → Type 0
Stops w [] = Unit {0}
Stops w (batch ∷ rest) = (next : BatchDraws) × PassesLimit w batch next

-- the first batches ran, up to such a stop
record Ended (w : WorldState) (batches : List (List SystemModel)) : Type 0 where
  done : List (List SystemModel)
  rest : List (List SystemModel)
  draws : List BatchDraws
  outcomes : FrameOutcomes
  new : WorldState
  cut : batches ≡ done ++ rest
  ran : InTurn BatchRuns w done draws outcomes new
  stops : Stops new rest

ended_here : (w : WorldState) (batches : List (List SystemModel)) → Stops w batches → Ended w batches
ended_here w batches stops = record {
  done = [];
  rest = batches;
  draws = [];
  outcomes = [];
  new = w;
  cut = refl;
  ran = (refl, refl);
  stops = stops;
}

ended_later : (w : WorldState) (b : List SystemModel) (bs : List (List SystemModel)) (one : Runs w b) → Ended one.2 bs → Ended w (b ∷ bs)
ended_later w b bs one x = record {
  done = b ∷ x.done;
  rest = x.rest;
  draws = one.0 ∷ x.draws;
  outcomes = one.1 ++ x.outcomes;
  new = x.new;
  cut = ap (λ ys. b ∷ ys) x.cut;
  ran = (one.1, x.outcomes, one.2, one.3, x.ran, refl);
  stops = x.stops;
}

ends_in_turn : (batches : List (List SystemModel)) (w : WorldState) → IsLawful w → AllByRecursion (AllByRecursion TakesSome) batches → Ended w batches
ends_in_turn [] w l some = ended_here w [] tt
ends_in_turn (b ∷ bs) w l some = elim (batch_ends w b l some.0) as (λ _. Ended w (b ∷ bs)) [
  | inl one ↦ ended_later w b bs one (ends_in_turn bs one.2 one.4 some.1)
  | inr stop ↦ ended_here w (b ∷ bs) stop
]

batches_join : (w : WorldState) (systems : List SystemModel) (batches : List (List SystemModel)) → AreBatches w systems batches → systems ≡ joined batches
batches_join w systems [] h = h
batches_join w systems ([] ∷ bs) h = absurd h
batches_join w systems ((s ∷ b) ∷ bs) h = h.0

pub frames_exist : FramesExist
frames_exist w systems l some = (x.draws, x.outcomes, x.new, by x.rest x.cut x.stops)
  where
    batches : List (List SystemModel)
    batches = (batches_of w l (in_order systems)).0

    are : AreBatches w (in_order systems) batches
    are = (batches_of w l (in_order systems)).1

    x : Ended w batches
    x = ends_in_turn batches w l
        (all_joined TakesSome batches (subst (AllByRecursion TakesSome) (batches_join w (in_order systems) batches are) (all_in_order TakesSome systems some)))

    by : (rest : List (List SystemModel)) → batches ≡ x.done ++ rest → Stops x.new rest →
        IsFrame w systems x.draws x.outcomes x.new ⊎ FrameIsStopped w systems x.draws x.outcomes x.new
    by [] cut stops = inl (x.done, subst (AreBatches w (in_order systems)) (cut ∙ append-nil x.done) are, x.ran)
    by (batch ∷ rest) cut stops = inr (x.done, batch, rest, stops.0, subst (AreBatches w (in_order systems)) cut are, x.ran, stops.1)
