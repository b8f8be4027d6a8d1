use Rattle.eco_store.proofs.AnswersCommon.{◌≡◌, ◌++◌, ◌-◌, ◌≤◌, standings_from}
use Rattle.eco_store.proofs.blocks.add_rows.Given as goal

abbrev pub invariant-loop-place : goal.invariant-loop-place
invariant-loop-place l = record {
  made : l.rows.items ≡ l.fn.rows.items ++ standings_from l.entity l.fn.block.first (l.place - l.fn.block.first);
  within : l.place - l.fn.block.first ≤ l.fn.block.end - l.fn.block.first;
}
