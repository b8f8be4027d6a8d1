use Rattle.eco_index.proofs.CachesCommon.{◌≡◌, take, StayExact, cache_states}
use Rattle.eco_index.proofs.caches.Caches.try_copy.Given as goal

abbrev pub invariant-loop-cache : goal.invariant-loop-cache
invariant-loop-cache l =
    StayExact (take l.cache-index l.fn.self.list.items) l.list.items
    × (cache_states l.list.items ≡ cache_states (take l.cache-index l.fn.self.list.items))
