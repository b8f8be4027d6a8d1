-- What systems record on a world: rows cut into pieces, and the commands of each.
use Rattle.std.specs.Prelude.{◌≡◌, ℕ, zero, suc, take, drop, length, IsTrue, List, [], ◌∷◌, ◌++◌}
use Rattle.eco_ids.specs.declared.entity.Entity.{Entity}
use Rattle.eco_ids.specs.Run.{Command}
use Rattle.eco_ids.specs.World.{WorldState}
use Rattle.eco_systems.specs.Rows.{ValuedRow, valued_rows}
use Rattle.eco_systems.specs.Systems.{SystemModel}

-- the rows take these draws in order, leave nothing of them, and record these commands in order
abbrev pub RowsRecord : SystemModel → List ValuedRow → List Entity → List Command → Type 0
RowsRecord s [] draws commands = (draws ≡ []) × (commands ≡ [])
RowsRecord s (row ∷ rows) draws commands =
    (mine : List Entity) × (others : List Entity) × (later : List Command)
    × IsTrue (s.takes row mine) × RowsRecord s rows others later × (draws ≡ mine ++ others) × (commands ≡ s.records row mine ++ later)

-- runs of 64 rows, at most as many as are asked for
abbrev pub cut : ℕ → List ValuedRow → List (List ValuedRow)
cut zero rows = []
cut (suc n) [] = []
cut (suc n) (row ∷ rows) = take 64 (row ∷ rows) ∷ cut n (drop 64 (row ∷ rows))

-- 64 consecutive rows are a piece; the last may be shorter
abbrev pub pieces_of : List ValuedRow → List (List ValuedRow)
pieces_of rows = cut (length rows) rows

-- each piece has its own list of draws, and its commands stand behind those of the pieces before it
abbrev pub PiecesRecord : SystemModel → List (List ValuedRow) → List (List Entity) → List Command → Type 0
PiecesRecord s [] [] commands = commands ≡ []
PiecesRecord s [] (d ∷ ds) commands = ⊥
PiecesRecord s (p ∷ ps) [] commands = ⊥
PiecesRecord s (p ∷ ps) (d ∷ ds) commands =
    (now : List Command) × (later : List Command) × RowsRecord s p d now × PiecesRecord s ps ds later × (commands ≡ now ++ later)

-- what a system records on a world with these draws, a list for each piece
abbrev pub Records : WorldState → SystemModel → List (List Entity) → List Command → Type 0
Records w s draws commands = PiecesRecord s (pieces_of (valued_rows w s.slots)) draws commands

-- what the systems of a batch record, all on one world
abbrev pub BatchRecords : WorldState → List SystemModel → List (List (List Entity)) → List Command → Type 0
BatchRecords w [] [] commands = commands ≡ []
BatchRecords w [] (d ∷ ds) commands = ⊥
BatchRecords w (s ∷ ss) [] commands = ⊥
BatchRecords w (s ∷ ss) (d ∷ ds) commands =
    (now : List Command) × (later : List Command) × Records w s d now × BatchRecords w ss ds later × (commands ≡ now ++ later)
