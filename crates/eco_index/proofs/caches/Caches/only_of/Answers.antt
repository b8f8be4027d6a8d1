use Rattle.eco_index.proofs.CachesCommon.{refl, sym, ap, ◌∙◌, slice_get, slice_get_read}
use Rattle.eco_index.proofs.Caching.{kept_of}
use Rattle.eco_index.proofs.caches.Caches.only_of.Goals as goal

pub returns-in-Some-clause-kept : goal.returns-in-Some-clause-kept
returns-in-Some-clause-kept c =
    kept_of c.args.self.now.list.items c.args.number c.in-Some.cache.now c.args.query.now c.args.slots.now c.only_of.result
    (ap (λ cs. slice_get cs c.args.number) (sym c.deref.ensures.value)
    ∙ slice_get_read c.deref.result.now _ c.args.number c.in-Some.cache.now refl c.in-Some.ensures.lookup.3.0 c.in-Some.ensures.lookup.1)
    (c.is.ensures.0 c.if-is.true) c.only_of.ensures.kept
