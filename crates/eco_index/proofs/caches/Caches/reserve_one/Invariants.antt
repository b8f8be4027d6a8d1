use Rattle.eco_index.proofs.CachesCommon.{◌≡◌, ℕ, ◌<◌, Some, slice_get, spare, Cache, StayExact, cache_states}
use Rattle.eco_index.proofs.caches.Caches.reserve_one.Given as goal

abbrev pub invariant-loop-cache : goal.invariant-loop-cache
invariant-loop-cache l =
    StayExact l.fn.self.list.items l.cache-items
    × ((k : ℕ) (c : Cache) → slice_get l.cache-items k ≡ Some c → k < l.cache-index → 0 < spare c.slots)
    × (cache_states l.cache-items ≡ cache_states l.fn.self.list.items)
