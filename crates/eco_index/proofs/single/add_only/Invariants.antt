use Rattle.eco_index.proofs.EntriesCommon.{◌≡◌, ◌+◌, ◌++◌, length, drop, map, choices, asks}
use Rattle.eco_index.proofs.single.add_only.Given as goal

abbrev pub invariant-loop-place : goal.invariant-loop-place
invariant-loop-place l = record {
  long : length l.entries.items ≡ length l.fn.entries.items + l.place;
  made : map (λ c. l.fn.entries.items ++ c) (choices l.ids (asks l.slots))
      ≡ map (λ rest. l.entries.items ++ rest) (choices l.ids (asks (drop l.place l.slots)));
}
