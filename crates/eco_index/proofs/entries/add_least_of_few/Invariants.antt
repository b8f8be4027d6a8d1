use Rattle.eco_index.proofs.EntriesCommon.{◌≡◌, ◌++◌, take, map, Some, filter, is_least_match}
use Rattle.eco_index.proofs.entries.add_least_of_few.Given as goal

abbrev pub invariant-loop-id : goal.invariant-loop-id
invariant-loop-id l = l.entries.items ≡ l.fn.entries.items ++ map Some (filter (is_least_match l.pattern l.ids) (take l.id-index l.ids))
