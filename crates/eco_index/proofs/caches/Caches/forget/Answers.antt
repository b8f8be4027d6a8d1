use Rattle.eco_index.proofs.CachesCommon.{None, ap, arith, ◌∙◌, kept_queries, some_at}
use Rattle.eco_index.proofs.Caching.{keep_all, keep_begun, keep_more, queries_back, queries_kept, told_all, told_begun, told_more}
use Rattle.eco_index.proofs.caches.Caches.forget.Goals as goal

pub loop-cache-init : goal.loop-cache-init
loop-cache-init c = (
  told_begun _ _ c.args.slot None c.deref_mut-cache-items.ensures.value,
  keep_begun _ _ None c.deref_mut-cache-items.ensures.value,
  ap kept_queries c.deref_mut-cache-items.ensures.value,
)

pub loop-cache-preserved : goal.loop-cache-preserved
loop-cache-preserved c = (
  told_more c.loop-cache.cache-items c.loop-cache.cache-index _ c.forget.new.self c.args.self.now.list.items c.args.slot None
      c.loop-cache.invariant.0
      (some_at c.loop-cache.cache-items c.loop-cache.cache-index c.cache-item.result (omega arith)) c.forget.ensures.told,
  keep_more c.loop-cache.cache-items c.loop-cache.cache-index _ c.forget.new.self c.args.self.now.list.items None c.loop-cache.invariant.1
      (some_at c.loop-cache.cache-items c.loop-cache.cache-index c.cache-item.result (omega arith)) c.forget.ensures.kept,
  queries_kept c.loop-cache.cache-items c.loop-cache.cache-index _ c.cache-item.result c.forget.ensures.query ∙ c.loop-cache.invariant.2,
)

pub returns-clause-queries : goal.returns-clause-queries
returns-clause-queries c = queries_back _ _ _ c.args.self.now.list.len (omega arith) c.loop-cache.invariant.2

pub returns-clause-told : goal.returns-clause-told
returns-clause-told c =
    told_all c.args.self.now.list.items c.loop-cache.cache-items _ c.args.slot None c.loop-cache.cache-index c.args.self.now.list.len
    c.loop-cache.invariant.0 (omega arith) (omega arith)

pub returns-clause-kept : goal.returns-clause-kept
returns-clause-kept c =
    keep_all c.args.self.now.list.items c.loop-cache.cache-items _ None c.loop-cache.cache-index c.args.self.now.list.len
    c.loop-cache.invariant.1 (omega arith) (omega arith)
