use Rattle.eco_index.proofs.CachesCommon.{refl, ap, arith, length, slice_get_read}
use Rattle.eco_index.proofs.Caching.{copied_all, copied_more, states_all, states_more}
use Rattle.eco_index.proofs.caches.Caches.try_copy.Goals as goal

pub loop-cache-preserved : goal.loop-cache-preserved
loop-cache-preserved c =
    let old = c.args.self.now.list.items in
    let i = c.loop-cache.cache-index in
    let e = c.in_ok-try_copy.ensures in
    let own = ap length c.deref-cache-items.ensures.value in
    let is = rw c.deref-cache-items.ensures.value at c.cache-item.is in
    rw c.in_ok-push.ensures.items (
      copied_more old c.loop-cache.list.items i c.cache-item.result c.in_ok-try_copy.field-0 (slice_get_read old _ i c.cache-item.result refl (omega arith) is)
          e.query e.slots e.only c.loop-cache.invariant.0,
      states_more old c.loop-cache.list.items i c.cache-item.result c.in_ok-try_copy.field-0 (omega arith) is e.query e.slots e.only
          c.loop-cache.invariant.1,
    )

pub returns-clause-same : goal.returns-clause-same
returns-clause-same c =
    let own = ap length c.deref-cache-items.ensures.value in
    states_all c.args.self.now.list.items c.loop-cache.list.items c.loop-cache.cache-index (omega (arith, own, c.loop-cache-test.false))
    c.loop-cache.invariant.1

pub returns-clause-exact : goal.returns-clause-exact
returns-clause-exact c =
    let own = ap length c.deref-cache-items.ensures.value in
    copied_all c.args.self.now.list.items c.loop-cache.list.items c.loop-cache.cache-index (omega (arith, own, c.loop-cache-test.false))
    c.loop-cache.invariant.0
