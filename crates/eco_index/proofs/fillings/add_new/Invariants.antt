use Rattle.eco_index.proofs.EntriesCommon.{◌≡◌, ◌++◌, take, map, Some, filter, is_least_match, HasSeen, AreApart}
use Rattle.eco_index.proofs.fillings.add_new.Given as goal

abbrev pub invariant-loop-id : goal.invariant-loop-id
invariant-loop-id l =
    (l.entries.items ≡ l.fn.entries.items ++ map Some (filter (is_least_match l.pattern l.ids) (take l.id-index l.ids)))
    × (HasSeen l.pattern (take l.id-index l.ids) l.seen × AreApart l.seen)
