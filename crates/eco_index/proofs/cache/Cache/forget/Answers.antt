use Rattle.eco_index.proofs.CachesCommon.{None, refl}
use Rattle.eco_index.proofs.cache.Cache.forget.Goals as goal

pub returns-clause-told : goal.returns-clause-told
returns-clause-told c = c.take_out.ensures.told None refl
