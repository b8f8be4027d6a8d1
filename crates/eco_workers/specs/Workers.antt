-- What a worker gives back.
use Rattle.std.specs.Prelude.{◌≡◌, ◌⊎◌, ℕ, ◌≤◌, Bool, true, false, List, map, Option, Some, None}
use Rattle.std.specs.List.{All, Contains, flat_map}
use Rattle.eco_workers.specs.declared.round.Round.{Round}
use Rattle.eco_workers.specs.declared.seat.Seat.{Seat}
use Rattle.eco_workers.specs.Rounds.{claimed, drawn, is_done, is_dry, IsSeatOf, IsNewSeatOf}
use Rattle.eco_ids.specs.Run.{Command}
use Rattle.eco_ids.specs.declared.refusal.Refusal.{Refusal}
use Rattle.eco_ids.specs.declared.refusal.Refusal.TheVariants.{NoMoreIds, OutOfMemory}
use Rattle.eco_workers.specs.declared.collected.Collected.{Collected}
use Rattle.eco_workers.specs.declared.job.Job.{Job}
use Rattle.eco_workers.specs.declared.worked.Worked.{Worked}
use Rattle.eco_workers.specs.declared.end.End.{End}
use Rattle.eco_workers.specs.declared.end.End.TheVariants.{Done, NoMemory, Refused}
use Rattle.eco_stages.specs.Taking.{IsStopped}
use Rattle.eco_workers.specs.Entries.{Entry, IsLog, IsShare, IsShort}

-- the job's seat is a new one of the round
pub record IsNewJobOf (round : Round) (job : Job) : Type 0 where
  pub new : IsNewSeatOf round job.seat

module _ {S : Type 0} (commands : S → List ℕ → List Command) (taken : S → List ℕ → ℕ) (pieces : List S) where
  -- what the worker collected is what its seat has claimed and drawn, and it may go on
  pub record IsGoing (seat : Seat) (collected : List Collected) : Type 0 where
    pub going : is_done seat ≡ false
    pub wet : is_dry seat ≡ false
    pub log : List Entry
    pub logged : IsLog commands taken pieces (claimed seat) (drawn seat) collected log

  -- the same, where the seat was refused a piece
  pub record IsDone (seat : Seat) (collected : List Collected) : Type 0 where
    pub done : is_done seat ≡ true
    pub log : List Entry
    pub logged : IsLog commands taken pieces (claimed seat) (drawn seat) collected log

  -- the worker stopped: what its seat has claimed and drawn is shared out among pieces, and where no index was left some piece takes more
  pub record IsBroken (seat : Seat) (refusal : Refusal) : Type 0 where
    pub shares : List Entry
    pub why : IsStopped refusal
    pub claims : claimed seat ≡ map (λ (e : Entry). e.number) shares
    pub draws : drawn seat ≡ flat_map (λ (e : Entry). e.draws) shares
    pub fair : All (λ (e : Entry). IsShare commands taken pieces e) shares
    pub out : refusal ≡ NoMoreIds → (is_dry seat ≡ true) × ((e : Entry) × Contains shares e × IsShort commands taken pieces e)

  abbrev pub HasEnded : End → Seat → List Collected → Type 0
  HasEnded Done seat collected = IsDone seat collected
  HasEnded NoMemory seat collected = IsBroken seat OutOfMemory
  HasEnded (Refused number refusal) seat collected = IsBroken seat refusal

  abbrev pub IsWorked : Round → Worked → Type 0
  IsWorked round w = IsSeatOf round w.seat × HasEnded w.end w.seat w.pieces.items

-- no piece below n was refused
abbrev pub IsPast : ℕ → End → Type 0
IsPast n Done = Unit {0}
IsPast n NoMemory = Unit {0}
IsPast n (Refused m refusal) = n ≤ m

abbrev pub IsUnrefused : End → Type 0
IsUnrefused Done = Unit {0}
IsUnrefused NoMemory = Unit {0}
IsUnrefused (Refused m refusal) = ⊥

abbrev pub ends_of : List Worked → List End
ends_of worked = map (λ (w : Worked). w.end) worked

-- some piece was refused with this refusal, and none below it was refused
pub record IsLeastRefusal (ends : List End) (refusal : Refusal) : Type 0 where
  pub number : ℕ
  pub here : Contains ends (Refused number refusal)
  pub least : All (λ (d : End). IsPast number d) ends

-- no piece was refused, but some worker had no memory for one
pub record IsFull (ends : List End) (refusal : Refusal) : Type 0 where
  pub here : Contains ends NoMemory
  pub unrefused : All (λ (d : End). IsUnrefused d) ends
  pub refusal_is : refusal ≡ OutOfMemory

-- why a batch stops
abbrev pub IsStop : List Worked → Refusal → Type 0
IsStop worked refusal = IsLeastRefusal (ends_of worked) refusal ⊎ IsFull (ends_of worked) refusal

-- what was found of the ends so far
abbrev pub IsFound : Option (ℕ × Refusal) → Bool → List End → Type 0
IsFound (Some p) full ends = Contains ends (Refused p.0 p.1) × All (λ (d : End). IsPast p.0 d) ends
IsFound None full ends = All (λ (d : End). IsUnrefused d) ends × (full ≡ true → Contains ends NoMemory) × (full ≡ false → All (λ (d : End). d ≡ Done) ends)
