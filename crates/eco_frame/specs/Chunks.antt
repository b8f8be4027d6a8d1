-- Chunks: pieces that follow one another, and what they take and record in turn.
use Rattle.std.specs.Prelude.{◌==◌, ℕ, ◌+◌, List, [], ◌∷◌, ◌++◌, drop, take, if◌then◌else◌}
use Rattle.eco_ids.specs.declared.entity.Entity.{Entity}
use Rattle.eco_ids.specs.Run.{Command}
use Rattle.eco_frame.specs.declared.chunk.Chunk.{Chunk}

abbrev pub chunk_pieces : {P : Type 0} → Chunk P → List P
chunk_pieces c = c.pieces.now

module _ {S : Type 0} (taken : S → List Entity → ℕ) where
  -- How many handles pieces take in turn, each from what those before it leave. Those behind a piece take some where it takes as many of its own alone as
  -- where more are there to draw: so each piece's own can be told from what all of them took
  abbrev pub chunk_taken : List S → List Entity → ℕ
  chunk_taken [] draws = 0
  chunk_taken (p ∷ ps) draws =
      taken p draws + (if taken p (take (taken p draws) draws) == taken p draws then chunk_taken ps (drop (taken p draws) draws) else 0)

  -- and what they record, each with its own
  abbrev pub chunk_commands : (S → List Entity → List Command) → List S → List Entity → List Command
  chunk_commands commands [] draws = []
  chunk_commands commands (p ∷ ps) draws =
      commands p (take (taken p draws) draws) ++ chunk_commands commands ps (drop (taken p draws) draws)
