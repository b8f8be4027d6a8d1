use Rattle.eco_index.proofs.CachesCommon.{◌≡◌, None, kept_queries}
use Rattle.eco_index.proofs.Caching.{AreToldTo, KeepStillTo}
use Rattle.eco_index.proofs.caches.Caches.forget.Given as goal

abbrev pub invariant-loop-cache : goal.invariant-loop-cache
invariant-loop-cache l =
    AreToldTo l.fn.self.list.items l.cache-items l.slot None l.cache-index
    × KeepStillTo l.fn.self.list.items l.cache-items None l.cache-index
    × (kept_queries l.cache-items ≡ kept_queries l.fn.self.list.items)
