-- What was recorded of pieces: the stage of each, and the indices that it drew.
use Rattle.std.specs.Prelude.{◌≡◌, ℕ, ◌<◌, ◌≤◌, true, List, [], map, length, Some}
use Rattle.eco_workers.specs.declared.seat.Seat.{Seat}
use Rattle.eco_tickets.specs.Counting.{ascends}
use Rattle.eco_workers.specs.Rounds.{claimed, drawn, dry_count}
use Rattle.std.specs.List.{All, Contains, slice_get, flat_map}
use Rattle.eco_ids.specs.Run.{Command}
use Rattle.eco_workers.specs.declared.collected.Collected.{Collected}

-- a piece by its number, with its stage and the indices that it drew
pub record Entry : Type 0 where
  pub number : ℕ
  pub stage : List Command
  pub draws : List ℕ

abbrev pub entry_of : Collected → List ℕ → Entry
entry_of p draws = record { number = p.number; stage = p.stage; draws = draws }

-- what a piece drew, of which no stage was collected
abbrev pub share_of : ℕ → List ℕ → Entry
share_of number draws = record { number = number; stage = []; draws = draws }

abbrev pub piece_of_entry : Entry → Collected
piece_of_entry e = record { number = e.number; stage = e.stage }

module _ {S : Type 0} (commands : S → List ℕ → List Command) (taken : S → List ℕ → ℕ) where
  -- the stage is the recording of the piece's rows in order, which take these indices and leave none of them
  abbrev pub IsStage : S → List ℕ → List Command → Type 0
  IsStage piece draws stage = (taken piece draws ≡ length draws) × (stage ≡ commands piece draws)

  module _ (pieces : List S) where
    pub record IsEntry (e : Entry) : Type 0 where
      pub piece : S
      pub at : slice_get pieces e.number ≡ Some piece
      pub stage : IsStage piece e.draws e.stage

    -- what a worker has collected: the pieces that its seat has claimed, in order, of which the draws are one after the other what the seat has drawn
    pub record IsLog (claimed drawn : List ℕ) (pushed : List Collected) (log : List Entry) : Type 0 where
      pub claims : claimed ≡ map (λ (e : Entry). e.number) log
      pub draws : drawn ≡ flat_map (λ (e : Entry). e.draws) log
      pub collected : pushed ≡ map piece_of_entry log
      pub good : All (λ (e : Entry). IsEntry e) log

    -- an entry whose draws ascend
    abbrev pub IsGood : Entry → Type 0
    IsGood e = IsEntry e × (ascends e.draws ≡ true)

    -- what all workers have collected: the pieces that their seats have claimed, seat by seat, of which the draws are one after the other what the seats have
    -- drawn
    pub record IsGathered (seats : List Seat) (pushed : List Collected) (log : List Entry) : Type 0 where
      pub collected : pushed ≡ map piece_of_entry log
      pub good : All (λ (e : Entry). IsGood e) log
      pub claims : map (λ (e : Entry). e.number) log ≡ flat_map claimed seats
      pub draws : flat_map (λ (e : Entry). e.draws) log ≡ flat_map drawn seats

    -- the piece takes at least these indices
    pub record IsShare (e : Entry) : Type 0 where
      pub piece : S
      pub at : slice_get pieces e.number ≡ Some piece
      pub most : length e.draws ≤ taken piece e.draws

    -- the piece takes more than these
    pub record IsShort (e : Entry) : Type 0 where
      pub piece : S
      pub at : slice_get pieces e.number ≡ Some piece
      pub more : length e.draws < taken piece e.draws

    -- what the seats have claimed and drawn, shared out among pieces
    pub record IsShared (seats : List Seat) (shares : List Entry) : Type 0 where
      pub fair : All (λ (e : Entry). IsShare e) shares
      pub claims : map (λ (e : Entry). e.number) shares ≡ flat_map claimed seats
      pub draws : flat_map (λ (e : Entry). e.draws) shares ≡ flat_map drawn seats

    -- some seat was refused an index, for a piece that takes more than it drew
    abbrev pub IsFoundShort : List Seat → List Entry → Type 0
    IsFoundShort seats shares = (0 < dry_count seats) × ((e : Entry) × Contains shares e × IsShort e)
