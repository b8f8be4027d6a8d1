-- Listed systems as definitions have them, and their batches.
use Rattle.std.specs.Prelude.{◌≡◌, ℕ, Bool, List, map, slice_get, unwrap_or}
use Rattle.eco_ids.specs.declared.entity.Entity.{Entity}
use Rattle.eco_ids.specs.declared.pattern.Pattern.{Pattern}
use Rattle.eco_ids.specs.Run.{Command}
use Rattle.eco_ids.specs.Lawful.{IsLawful}
use Rattle.eco_ids.specs.World.{WorldState}
use Rattle.eco_systems.specs.Batches.{joined, AreBatches}
use Rattle.eco_systems.specs.Frames.{BatchDraws, IsFrame, IsSolo, FrameOutcomes}
use Rattle.eco_systems.specs.Phases.{in_order, order_of}
use Rattle.eco_systems.specs.Rows.{ValuedRow}
use Rattle.eco_systems.specs.Systems.{SystemModel, system_reads}
use Rattle.eco_frame.specs.Outlines.{no_system, reads_of}
use Rattle.eco_frame.specs.declared.declared_system.Declared.{Declared}
use Rattle.eco_bodies.specs.Bodies.{system_with}
use Rattle.eco_bodies.specs.declared.systems.System.{System}

-- the system of a body that reads, writes, kills, takes draws and records in these ways
abbrev pub model_of : {B : Type 0} → (B → List Pattern) → (B → List Pattern) → (B → Bool) → (B → ValuedRow → List Entity → ℕ)
    → (B → ValuedRow → List Entity → List Command) → System B → SystemModel
model_of reads writes kills taken commands s = system_with s.phase s.query (reads s.body) (writes s.body) (kills s.body) (taken s.body) (commands s.body)

-- what is declared is what the system declares
pub record Declares (s : SystemModel) (d : Declared) : Type 0 where
  pub phase : d.phase ≡ s.phase
  pub reads : reads_of d ≡ system_reads s
  pub writes : d.writes.now ≡ s.writes
  pub kills : d.kills ≡ s.kills

-- the system at a position of declaration
abbrev pub model_at : List SystemModel → ℕ → SystemModel
model_at systems k = unwrap_or (slice_get systems k) no_system

-- the lists hold all positions of declaration in the order in which the systems run, and the systems there are the batches
abbrev pub ArePlaced : WorldState → List SystemModel → List (List ℕ) → Type 0
ArePlaced w systems places = (joined places ≡ order_of systems) × AreBatches w (in_order systems) (map (map (model_at systems)) places)

-- every frame of the systems on the world is the run of these one by one
abbrev pub AreOneByOne : WorldState → List SystemModel → Type 0
AreOneByOne w systems =
    (draws : List BatchDraws) (outcomes : FrameOutcomes) (new : WorldState)
    → IsLawful w → IsFrame w systems draws outcomes new → IsSolo w systems draws outcomes new
