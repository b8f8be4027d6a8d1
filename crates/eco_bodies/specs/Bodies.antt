-- Systems of bodies, as definitions have them.
use Rattle.std.specs.Prelude.{ℕ, Bool, List}
use Rattle.eco_ids.specs.declared.entity.Entity.{Entity}
use Rattle.eco_ids.specs.declared.pattern.Pattern.{Pattern}
use Rattle.eco_ids.specs.Run.{Command}
use Rattle.eco_query.specs.Queries.{QuerySlot}
use Rattle.eco_systems.specs.declared.phase.Phase.{Phase}
use Rattle.eco_systems.specs.Rows.{ValuedRow}
use Rattle.eco_systems.specs.Systems.{SystemModel}
use Rattle.eco_bodies.specs.Taking.{takes_just}

-- the system of a body, which has these reads, writes and kills and records in this way
abbrev pub system_with : Phase → List QuerySlot → List Pattern → List Pattern → Bool
    → (ValuedRow → List Entity → ℕ) → (ValuedRow → List Entity → List Command) → SystemModel
system_with phase slots reads writes kills taken commands = record {
  phase = phase;
  slots = slots;
  body_reads = reads;
  writes = writes;
  kills = kills;
  takes = takes_just taken;
  records = commands;
}
