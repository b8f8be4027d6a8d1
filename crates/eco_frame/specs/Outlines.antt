-- What is worked out of each system once, and when two clash.
use Rattle.std.specs.Prelude.{◌≡◌, ◌≤◌, ℕ, Bool, false, ◌||◌, List, [], ◌∷◌, ◌++◌, length, map, slice_get, Option, Some, None}
use Rattle.std.specs.List.{AllByRecursion, IsDistinct, list_any}
use Rattle.eco_ids.specs.declared.pattern.Pattern.{Pattern}
use Rattle.eco_ids.specs.Matching.{pattern_overlaps}
use Rattle.eco_ids.specs.World.{WorldState}
use Rattle.eco_systems.specs.Batches.{joined, AreBatches}
use Rattle.eco_systems.specs.Closing.{ListsClosed}
use Rattle.eco_systems.specs.Joining.{batched}
use Rattle.eco_systems.specs.Phases.{in_order, order_of}
use Rattle.eco_systems.specs.Systems.{SystemModel}
use Rattle.eco_systems.specs.Writes.{widened, writes_trait}
use Rattle.eco_systems.specs.declared.phase.Phase.TheVariants.{OnLoad}
use Rattle.eco_frame.specs.Brought.{BringsNothing, same_pattern, unrepeated}
use Rattle.eco_frame.specs.declared.declared_system.Declared.{Declared}
use Rattle.eco_frame.specs.OutlineModels.{OutlineModel}

-- all that it reads
abbrev pub reads_of : Declared → List Pattern
reads_of d = d.query_reads.now ++ d.body_reads.now

-- the system that declares this; which of its reads are its query's, and what it records, doesn't matter here
abbrev pub system_of : Declared → SystemModel
system_of d = record {
  phase = d.phase;
  slots = [];
  body_reads = reads_of d;
  writes = d.writes.now;
  kills = d.kills;
  takes = λ row draws. false;
  records = λ row draws. [];
}

-- one that reads, writes and records nothing
abbrev pub no_system : SystemModel
no_system = record { phase = OnLoad; slots = []; body_reads = []; writes = []; kills = false; takes = λ row draws. false; records = λ row draws. [] }

abbrev pub system_in : Option Declared → SystemModel
system_in None = no_system
system_in (Some d) = system_of d

-- the system at a position of declaration
abbrev pub system_at : List Declared → ℕ → SystemModel
system_at ds k = system_in (slice_get ds k)

-- all of them
abbrev pub systems_of : List Declared → List SystemModel
systems_of ds = map system_of ds

-- an outline is that of a system: each closed write stands there once
pub record IsOutline (w : WorldState) (d : Declared) (o : OutlineModel) : Type 0 where
  pub kills : o.kills ≡ d.kills
  pub closed : ListsClosed w d.writes.now o.closed
  pub once : IsDistinct same_pattern o.closed
  pub traits : o.writes_traits ≡ list_any (writes_trait w.edition) o.closed

-- closed writes that are told without a list of what is brought: those of at most eight writes, none of which brings others; they
-- are the writes, widened, each once
pub record ListsFew (w : WorldState) (writes closed : List Pattern) : Type 0 where
  pub few : length writes ≤ 8
  pub alone : AllByRecursion (BringsNothing w) writes
  pub made : closed ≡ unrepeated (map (widened w) writes)

-- an outline is that of a system whose closed writes are told so
pub record IsKnown (w : WorldState) (d : Declared) (o : OutlineModel) : Type 0 where
  pub kills : o.kills ≡ d.kills
  pub closed : ListsFew w d.writes.now o.closed
  pub traits : o.writes_traits ≡ list_any (writes_trait w.edition) o.closed

-- the closed writes of a system
abbrev pub closed_in : Option OutlineModel → List Pattern
closed_in None = []
closed_in (Some o) = o.closed

-- the system writes traits
abbrev pub traits_in : Option OutlineModel → Bool
traits_in None = false
traits_in (Some o) = o.writes_traits

-- the system kills
abbrev pub kills_in : Option OutlineModel → Bool
kills_in None = false
kills_in (Some o) = o.kills

-- and so does a later one
abbrev pub kills_too : Option Declared → Bool
kills_too None = false
kills_too (Some d) = d.kills

abbrev pub reads_in : Option Declared → List Pattern
reads_in None = []
reads_in (Some d) = reads_of d

-- a closed write overlaps a read
abbrev pub disturbs : List Pattern → List Pattern → Bool
disturbs closed reads = list_any (λ p. list_any (pattern_overlaps p) reads) closed

-- two systems clash; `late` says that the later one or one before it writes traits
abbrev pub clash_of : Option OutlineModel → Option Declared → Bool → Bool
clash_of o d late = kills_in o || (kills_too d || (late || disturbs (closed_in o) (reads_in d)))

-- the system at t writes traits, or one of those before it
abbrev pub late_at : List OutlineModel → List ℕ → ℕ → Bool
late_at os before t = list_any (λ k. traits_in (slice_get os k)) (before ++ t ∷ [])

-- the systems at s and t clash, where these come before t
abbrev pub clash_at : List OutlineModel → List Declared → List ℕ → ℕ → ℕ → Bool
clash_at os ds before s t = clash_of (slice_get os s) (slice_get ds t) (late_at os before t)

-- the batches of systems of which so much is worked out, where they run in this order
abbrev pub cut_of : List OutlineModel → List Declared → List ℕ → List (List ℕ)
cut_of os ds [] = []
cut_of os ds (k ∷ ks) = batched (clash_at os ds) [] [] (k ∷ ks)

-- the lists hold all positions of declaration in the order in which the systems run, and the systems there are the batches
abbrev pub ArePlacedBatches : WorldState → List Declared → List (List ℕ) → Type 0
ArePlacedBatches w ds places =
    (joined places ≡ order_of (systems_of ds)) × AreBatches w (in_order (systems_of ds)) (map (map (system_at ds)) places)
