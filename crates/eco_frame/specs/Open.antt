-- The batch that is open.
use Rattle.std.specs.Prelude.{◌≡◌, ℕ, Bool, ◌||◌, Option, List, [], ◌∷◌, ◌++◌, slice_get}
use Rattle.std.specs.List.{list_any}
use Rattle.eco_ids.specs.declared.pattern.Pattern.{Pattern}
use Rattle.eco_ids.specs.Matching.{pattern_overlaps}
use Rattle.eco_systems.specs.Joining.{batched}
use Rattle.eco_frame.specs.OutlineModels.{OutlineModel}
use Rattle.eco_frame.specs.Outlines.{clash_at, closed_in, kills_in, kills_too, reads_in}
use Rattle.eco_frame.specs.Written.{overlaps}
use Rattle.eco_frame.specs.declared.open_batch.Batch.{Batch}
use Rattle.eco_frame.specs.declared.declared_system.Declared.{Declared}

-- what the batch keeps besides its positions is that of its systems, where these are their outlines
pub record IsOpen (os : List OutlineModel) (b : Batch) : Type 0 where
  pub kills : b.kills ≡ list_any (λ k. kills_in (slice_get os k)) b.places.items
  pub written : (read : Pattern)
      → overlaps b.written read ≡ list_any (λ k. list_any (λ p. pattern_overlaps p read) (closed_in (slice_get os k))) b.places.items

-- one of the batch and a later system can't be recorded on one world, where the batch has a system
abbrev pub stands_apart : Batch → Option Declared → Bool → Bool
stands_apart b d late = b.kills || (kills_too d || (late || list_any (overlaps b.written) (reads_in d)))

-- it has no system
pub record IsFresh (b : Batch) : Type 0 where
  pub places : b.places.items ≡ []
  pub opens : (os : List OutlineModel) → IsOpen os b

-- a system joined the batch
pub record JoinsOpen (os : List OutlineModel) (old : Batch) (at : ℕ) (new : Batch) : Type 0 where
  pub places : new.places.items ≡ old.places.items ++ at ∷ []
  pub stays : IsOpen os old → IsOpen os new

-- the system at a position joined the batch that was open, or closed it and opened the next
pub record JoinsNext (os : List OutlineModel) (ds : List Declared) (before : List ℕ) (at : ℕ) (rest : List ℕ)
    (done : List (List ℕ)) (batch : Batch) (done' : List (List ℕ)) (batch' : Batch) : Type 0 where
  pub is_open : IsOpen os batch'
  pub total : done' ++ batched (clash_at os ds) (before ++ at ∷ []) batch'.places.items rest
      ≡ done ++ batched (clash_at os ds) before batch.places.items (at ∷ rest)
