use Rattle.eco_frame.proofs.BatchesCommon.{◌≡◌, ◌++◌, map, take, brought, pattern_key}
use Rattle.eco_frame.proofs.brought.append_brought.Given as goal

abbrev pub invariant-loop-id : goal.invariant-loop-id
invariant-loop-id l = l.found.items ≡ l.initial.found.items ++ map pattern_key (brought l.pattern (take l.id-index l.ids))
