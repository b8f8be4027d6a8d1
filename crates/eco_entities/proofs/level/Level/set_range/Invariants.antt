use Rattle.eco_entities.proofs.Common.{◌≡◌, ℕ, ◌<◌, ◌≤◌, length, slice_index, bit_or, range_mask}
use Rattle.eco_entities.proofs.level.Level.set_range.Given as goal

abbrev pub invariant-loop-at : goal.invariant-loop-at
invariant-loop-at l = record {
  count : length l.self-inside.words.items ≡ length l.fn.self;
  below : (w : ℕ) → w < l.at → slice_index l.self-inside.words.items w ≡ bit_or (slice_index l.fn.self w) (range_mask l.from l.to w);
  rest : (w : ℕ) → l.at ≤ w → slice_index l.self-inside.words.items w ≡ slice_index l.fn.self w;
}
