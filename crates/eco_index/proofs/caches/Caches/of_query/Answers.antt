use Rattle.eco_index.proofs.CachesCommon.{refl, sym, ap, ◌∙◌, slice_get, slice_get_read}
use Rattle.eco_index.proofs.Caching.{those_of}
use Rattle.eco_index.proofs.caches.Caches.of_query.Goals as goal

pub returns-then-is-clause-those : goal.returns-then-is-clause-those
returns-then-is-clause-those c types was =
    those_of types c.args.self.now.list.items c.args.number c.in_ok-cache.cache.now c.args.query.now c.as_slice.result.now
    (ap (λ cs. slice_get cs c.args.number) (sym c.deref.ensures.value)
    ∙ slice_get_read c.deref.result.now _ c.args.number c.in_ok-cache.cache.now refl c.in_ok-cache.ensures.lookup.3.0 c.in_ok-cache.ensures.lookup.1)
    (c.is.ensures.0 c.if-is.true)
    c.as_slice.ensures.keys was
