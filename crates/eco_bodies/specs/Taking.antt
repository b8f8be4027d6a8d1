-- Commands recorded with handles that are drawn.
use Rattle.std.specs.Prelude.{◌≡◌, ◌==◌, ℕ, ◌+◌, Bool, List, [], ◌∷◌, ◌++◌, Some, length, drop, slice_get, take}
use Rattle.eco_ids.specs.declared.entity.Entity.{Entity}
use Rattle.eco_ids.specs.Run.{Command}
use Rattle.eco_stages.specs.Taking as recording
use Rattle.eco_stages.specs.Taking.{Broke}

-- some things that record, each with the handles that are there to draw: how many it takes from the front
module _ {X : Type 0} (taken : X → List Entity → ℕ) where
  -- how many they take in all, in order: each leaves what it doesn't take to those behind it
  abbrev pub taken_of : List X → List Entity → ℕ
  taken_of [] draws = 0
  taken_of (x ∷ xs) draws = taken x draws + taken_of xs (drop (taken x draws) draws)

  -- one takes just these draws
  abbrev pub takes_just : X → List Entity → Bool
  takes_just x draws = taken x draws == length draws

-- and with its commands
module _ {X : Type 0} (commands : X → List Entity → List Command) (taken : X → List Entity → ℕ) where
  -- one of them took some handles behind those drawn so far, whatever there is to draw behind them, and its commands stand behind
  -- those of the stage
  abbrev pub OneTook : X → List Entity → List Entity → List Command → List Command → Type 0
  OneTook x = recording.Took (commands x) (taken x)

  -- the commands of all of them, in order
  abbrev pub commands_in_turn : List X → List Entity → List Command
  commands_in_turn [] draws = []
  commands_in_turn (x ∷ xs) draws = commands x draws ++ commands_in_turn xs (drop (taken x draws) draws)

  -- all of them took some handles in order, likewise
  abbrev pub AllTook : List X → List Entity → List Entity → List Command → List Command → Type 0
  AllTook xs = recording.Took (commands_in_turn xs) (taken_of taken xs)

  -- where those before one of them took handles, and then that one, those up to it did
  abbrev pub TakesNext : List X → Type 0
  TakesNext xs =
      (i : ℕ) (x : X) (before between after : List Entity) (stage stage' stage'' : List Command) → slice_get xs i ≡ Some x
      → AllTook (take i xs) before between stage stage' → OneTook x between after stage' stage''
      → AllTook (take (i + 1) xs) before after stage stage''

  -- and where that one stopped, all of them did
  abbrev pub BreaksAll : List X → Type 0
  BreaksAll xs =
      (i : ℕ) (x : X) (before between after : List Entity) (stage stage' : List Command) (dry : Bool) → slice_get xs i ≡ Some x
      → AllTook (take i xs) before between stage stage' → Broke (taken x) between after dry → Broke (taken_of taken xs) before after dry
