use Rattle.eco_frame.proofs.Common.{◌≡◌, ◌+◌, ◌-◌, ◌<◌, ◌≤◌, flat_map, length, take}
use Rattle.std.specs.Prelude.{◌*◌}
use Rattle.eco_frame.specs.Chunks.{chunk_pieces}
use Rattle.eco_frame.proofs.chunk.chunks.Given as goal

-- those of the pieces so far
abbrev pub invariant-loop-first : goal.invariant-loop-first
invariant-loop-first g l = record {
  within : l.first ≤ length l.pieces;
  so_far : flat_map chunk_pieces l.chunks.items ≡ take l.first l.pieces;
  alone : l.size ≡ 1 → length l.chunks.items ≡ l.first;
  many : 1 < l.size → (2 * length l.chunks.items ≤ l.first + 1) × (l.first < length l.pieces → 2 * length l.chunks.items ≤ l.first);
  most : l.first ≤ 8 * length l.chunks.items;
}

abbrev pub decreases-loop-first : goal.decreases-loop-first
decreases-loop-first g l = length l.pieces - l.first
