-- Tags of names, the cells that lead from them to entities, and the buckets that the cells stand in.
use Rattle.std.specs.Prelude.{◌≡◌, ◌⊎◌, ◌*◌, ◌/◌, ◌%◌, ◌==◌, ℕ, Bool, true, false, nat_lt, List, [], ◌∷◌, length, filter, slice_get, Some}
use Rattle.std.specs.Hash.FoldHasher as folding
use Rattle.eco_ids.specs.declared.entity.Entity.{Entity}
use Rattle.eco_entities.specs.declared.cell.Cell.{Cell}

-- the lower half of a name's hash
abbrev pub tag_of : List ℕ → ℕ
tag_of name = folding.finish (folding.write folding.initial name) % 4294967296

-- the bucket that a tag picks, of so many: the larger the tag, the later the bucket
abbrev pub bucket_of : ℕ → ℕ → ℕ
bucket_of tag count = tag * count / 4294967296

-- what leads to an entity from a name with this tag
abbrev pub cell_to : ℕ → Entity → Cell
cell_to tag e = record { tag = tag; index = e.index }

-- the cell is one of these
abbrev pub IsIn : Cell → List Cell → Type 0
IsIn c [] = ⊥
IsIn c (d ∷ ds) = (d ≡ c) ⊎ IsIn c ds

-- of these cells, those that pick the bucket at this place among so many
abbrev pub cells_for : ℕ → ℕ → List Cell → List Cell
cells_for place count = filter (λ c. bucket_of c.tag count == place)

-- what a bucket keeps: cells, and marks, which say that names may be in the tree
abbrev pub BucketState : Type 0
BucketState = List Cell × List Bool

-- the mark that a tag picks
abbrev pub mark_of : ℕ → ℕ
mark_of tag = tag % 8

-- the bucket says that a name of this tag may be in the tree
abbrev pub HasMark : BucketState → ℕ → Type 0
HasMark b tag = slice_get b.1 (mark_of tag) ≡ Some true

-- the bucket that the tag picks has eight cells
abbrev pub IsFullAt : List BucketState → ℕ → Type 0
IsFullAt buckets tag = (b : BucketState) × (slice_get buckets (bucket_of tag (length buckets)) ≡ Some b) × (nat_lt (length b.0) 8 ≡ false)

-- the cell is in the bucket that it picks
abbrev pub IsAt : List BucketState → Cell → Type 0
IsAt buckets c = (b : BucketState) × (slice_get buckets (bucket_of c.tag (length buckets)) ≡ Some b) × IsIn c b.0

-- and so says the bucket that the tag picks
abbrev pub HasMarkAt : List BucketState → ℕ → Type 0
HasMarkAt buckets tag = (b : BucketState) × (slice_get buckets (bucket_of tag (length buckets)) ≡ Some b) × HasMark b tag

-- as many buckets, with the same cells and marks, or more of them
pub record KeepsAll (old new : List BucketState) : Type 0 where
  pub count : length new ≡ length old
  pub cells : (c : Cell) → IsAt old c → IsAt new c
  pub marks : (tag : ℕ) → HasMarkAt old tag → HasMarkAt new tag
