-- The systems of a batch with their rows, and the pieces that these are cut into.
use Rattle.std.specs.Prelude.{◌≡◌, ℕ, ◌-◌, ◌++◌, ◌≤◌, List, drop, flat_map, length, map, option_map, option_to_list, slice_get, take}
use Rattle.eco_ids.specs.declared.entity.Entity.{Entity}
use Rattle.eco_ids.specs.Run.{Command}
use Rattle.eco_ids.specs.World.{WorldState}
use Rattle.eco_systems.specs.Frames.{AreAscending, AreFresh, BatchDraws, all_drawn}
use Rattle.eco_systems.specs.Recording.{BatchRecords, pieces_of}
use Rattle.eco_systems.specs.Rows.{ValuedRow, valued_rows}
use Rattle.eco_systems.specs.Systems.{SystemModel}
use Rattle.eco_bodies.specs.Taking.{commands_in_turn, taken_of}
use Rattle.eco_bodies.specs.declared.systems.System.{System}
use Rattle.eco_workers.specs.Batches.{IsBatch, IsOut}
use Rattle.eco_stages.specs.Taking.{by_index}
use Rattle.eco_stages.specs.Merging.{all_commands}
use Rattle.eco_frame.specs.declared.part.Part.{Part}
use Rattle.eco_frame.specs.declared.piece.RowsPiece.{RowsPiece}

module _ {B : Type 0} where
  -- the rows of a piece
  abbrev pub piece_rows : RowsPiece B → List ValuedRow
  piece_rows p = take (p.end - p.first) (drop p.first p.rows.now)

  -- a piece is its body with its rows
  abbrev pub seen_piece : RowsPiece B → B × List ValuedRow
  seen_piece p = (p.body.now, piece_rows p)

  -- and so is what the rows of a system are kept in
  abbrev pub seen_part : Part B → B × List ValuedRow
  seen_part p = (p.body.now, p.rows)

  -- a system's body, with the rows of its query on a world
  abbrev pub body_with_rows : WorldState → System B → B × List ValuedRow
  body_with_rows w s = (s.body, valued_rows w s.query)

  -- the same of the system at a position of declaration, if there is one
  abbrev pub part_at : WorldState → List (System B) → ℕ → List (B × List ValuedRow)
  part_at w systems k = option_to_list (option_map (body_with_rows w) (slice_get systems k))

  -- the pieces of such rows, each with the body
  abbrev pub pieces_in : B × List ValuedRow → List (B × List ValuedRow)
  pieces_in p = map (λ rows. (p.0, rows)) (pieces_of p.1)

  -- the pieces of the systems at some positions
  abbrev pub pieces_at : WorldState → List (System B) → List ℕ → List (B × List ValuedRow)
  pieces_at w systems places = flat_map pieces_in (flat_map (part_at w systems) places)

  module _ (taken : B → ValuedRow → List Entity → ℕ) (commands : B → ValuedRow → List Entity → List Command) where
    -- what a piece records with the handles that are there to draw
    abbrev pub piece_commands : B × List ValuedRow → List Entity → List Command
    piece_commands p = commands_in_turn (commands p.0) (taken p.0) p.1

    -- and how many of them it takes
    abbrev pub piece_taken : B × List ValuedRow → List Entity → ℕ
    piece_taken p = taken_of (taken p.0) p.1

    -- all indices that are left are drawn, shared out among the pieces of a batch: each takes its share at least, and one takes more. So
    -- a draw was refused; and the pieces are no more than a batch may have
    abbrev pub IsRunOut : WorldState → List (System B) → List ℕ → Type 0
    IsRunOut w systems places =
        IsOut (by_index piece_commands) (by_index piece_taken) (pieces_at w systems places) (length w.indices) w.limit
        × (length (pieces_at w systems places) ≤ 16777216)

-- some pieces gave these commands: those of a stage of each, in the pieces' order
abbrev pub AreGiven : {S : Type 0} → (S → List ℕ → List Command) → (S → List ℕ → ℕ) → ℕ → List S → ℕ → ℕ → List Command → Type 0
AreGiven commands taken workers pieces base n given =
    (stages : List (List Command)) × IsBatch commands taken workers pieces base n stages × (given ≡ all_commands stages)

-- the law of bodies: what they look at of the handles that are there to draw is what they take
abbrev pub Settled : {B : Type 0} → (B → ValuedRow → List Entity → ℕ) → (B → ValuedRow → List Entity → List Command) → Type 0
Settled {B} taken commands =
    (b : B) (row : ValuedRow) (mine later : List Entity) → taken b row (mine ++ later) ≡ length mine
    → (taken b row mine ≡ length mine) × (commands b row (mine ++ later) ≡ commands b row mine)

-- the systems of a batch have at most 16,777,216 pieces on a world
abbrev pub HasFewPieces : WorldState → List SystemModel → Type 0
HasFewPieces w batch = length (flat_map (λ s. pieces_of (valued_rows w s.slots)) batch) ≤ 16777216

-- a batch of few pieces recorded these commands, and drew so many fresh handles; of one worker they ascend over all pieces in order
abbrev pub IsRecorded : ℕ → WorldState → List SystemModel → List Command → ℕ → Type 0
IsRecorded workers w batch commands n =
    (draws : BatchDraws) × BatchRecords w batch draws commands × AreFresh (length w.indices) draws × (length (all_drawn draws) ≡ n)
    × (workers ≡ 1 → AreAscending (length w.indices) draws) × HasFewPieces w batch
