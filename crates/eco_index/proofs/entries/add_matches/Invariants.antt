use Rattle.eco_index.proofs.EntriesCommon.{◌≡◌, ◌++◌, take, map, Some, filter, pattern_matches}
use Rattle.eco_index.proofs.entries.add_matches.Given as goal

abbrev pub invariant-loop-id : goal.invariant-loop-id
invariant-loop-id l = l.entries.items ≡ l.fn.entries.items ++ map Some (filter (pattern_matches l.pattern) (take l.id-index l.ids))
