-- What contracts see of the caches.
use Rattle.std.specs.Prelude.{List}
use Rattle.eco_index.specs.declared.cache.Cache.{Cache}
use Rattle.eco_index.specs.declared.caches.Caches.{Caches}

-- the caches by their numbers
abbrev pub cache_list : Caches → List Cache
cache_list c = c.list.items
