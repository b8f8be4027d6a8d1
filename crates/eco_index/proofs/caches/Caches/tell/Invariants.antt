use Rattle.eco_index.proofs.CachesCommon.{◌≡◌, Some, kept_queries}
use Rattle.eco_index.proofs.Caching.{HaveRoomFrom, AreToldTo, KeepStillTo}
use Rattle.eco_index.proofs.caches.Caches.tell.Given as goal

abbrev pub invariant-loop-cache : goal.invariant-loop-cache
invariant-loop-cache l =
    AreToldTo l.fn.self.list.items l.cache-items l.slot (Some l.type_list) l.cache-index
    × HaveRoomFrom l.cache-items l.cache-index
    × KeepStillTo l.fn.self.list.items l.cache-items (Some l.type_list) l.cache-index
    × (kept_queries l.cache-items ≡ kept_queries l.fn.self.list.items)
