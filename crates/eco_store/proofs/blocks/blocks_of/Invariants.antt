use Rattle.eco_store.proofs.AnswersCommon.{◌≡◌, ◌<◌, ℕ, length, slice_index_or, choices, table_in, asks, IsBlock, block_at}
use Rattle.eco_store.proofs.blocks.blocks_of.Given as goal

abbrev pub invariant-loop-slot : goal.invariant-loop-slot
invariant-loop-slot l = record {
  width : l.choices.width ≡ length l.terms;
  long : length l.list.items ≡ l.slot-index;
  each : (k : ℕ) → k < l.slot-index
      → IsBlock l.choices.all (choices (table_in l.tables (slice_index_or l.slots k 0)).ids (asks l.terms)) (block_at l.list.items k);
}
