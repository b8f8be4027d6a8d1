-- The choices of several tables in one list.
use Rattle.std.specs.Prelude.{◌≡◌, ℕ, zero, suc, ◌-◌, ◌<◌, ◌≤◌, List, [], ◌∷◌, length, map, take, drop, flat_map, Option}
use Rattle.std.specs.Borrow.{Bor}
use Rattle.std.specs.List.{slice_index_or}
use Rattle.eco_ids.specs.Answer as answers
use Rattle.eco_ids.specs.Answer.{choices}
use Rattle.eco_ids.specs.Terms.{QueryTerm}
use Rattle.eco_ids.specs.declared.entity.Entity.{Entity}
use Rattle.eco_ids.specs.declared.id.Id.{Id}
use Rattle.eco_tables.specs.Table.{TableState}
use Rattle.eco_tables.specs.Tables.{table_in}
use Rattle.eco_store.specs.declared.standing.Standing.{Standing}
use Rattle.eco_store.specs.declared.blocks.Block.{Block}
use Rattle.eco_store.specs.declared.blocks.Blocks.{Blocks}

-- what stands for a block where there is none
abbrev pub no_block : Block
no_block = record { first = 0; end = 0 }

-- the block at a place
abbrev pub block_at : List Block → ℕ → Block
block_at blocks k = slice_index_or blocks k no_block

-- rows of an entity, for so many choices from one on
abbrev pub standings_from : Entity → ℕ → ℕ → List Standing
standings_from e first zero = []
standings_from e first (suc n) = record { entity = e; place = first } ∷ standings_from e (suc first) n

-- a row for each choice of a block
abbrev pub standings_in : Block → Entity → List Standing
standings_in b e = standings_from e b.first (b.end - b.first)

-- the rows of all who stand, each for the block at its place
abbrev pub standings_of : List Block → List Standing → List Standing
standings_of blocks standings = flat_map (λ s. standings_in (block_at blocks s.place) s.entity) standings

-- these choices are the block's
pub record IsBlock (all cs : List (List (Option Id))) (b : Block) : Type 0 where
  pub rises : b.first ≤ b.end
  pub within : b.end ≤ length all
  pub are : take (b.end - b.first) (drop b.first all) ≡ cs

-- there is a block for each slot, with the choices of its table
pub record AreBlocks (tables : List (Option TableState)) (slots : List ℕ) (terms : List QueryTerm) (b : Blocks) : Type 0 where
  pub long : length b.list.items ≡ length slots
  pub each : (k : ℕ) → k < length slots
      → IsBlock b.choices.all (choices (table_in tables (slice_index_or slots k 0)).ids terms) (block_at b.list.items k)

-- what a row shows
abbrev pub shown : List (List (Option Id)) → Standing → answers.Row
shown all r = record { entity = r.entity; entries = slice_index_or all r.place [] }

-- a result as an iterator lends it
abbrev pub lent_result : Entity × Bor (List (Option Id)) → answers.Row
lent_result p = record { entity = p.0; entries = p.1.now }

-- the results of an entity with these ids
abbrev pub results : Entity → List Id → List QueryTerm → List answers.Row
results e ids terms = map (λ es. record { entity = e; entries = es }) (choices ids terms)

-- the results of all who stand in the tables of some slots
abbrev pub results_at : List (Option TableState) → List ℕ → List QueryTerm → List Standing → List answers.Row
results_at tables slots terms standings =
    flat_map (λ s. results s.entity (table_in tables (slice_index_or slots s.place 0)).ids terms) standings
