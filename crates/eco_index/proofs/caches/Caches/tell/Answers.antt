use Rattle.eco_index.proofs.CachesCommon.{Some, ap, arith, ◌∙◌, kept_queries, some_at}
use Rattle.eco_index.proofs.Caching.{keep_all, keep_begun, keep_more, queries_back, queries_kept, room_after, room_begun, told_all, told_begun, told_more}
use Rattle.eco_index.proofs.caches.Caches.tell.Goals as goal

pub loop-cache-init : goal.loop-cache-init
loop-cache-init c = (
  told_begun _ _ c.args.slot (Some c.args.type_list.now) c.deref_mut-cache-items.ensures.value,
  room_begun _ _ c.deref_mut-cache-items.ensures.value c.requires,
  keep_begun _ _ (Some c.args.type_list.now) c.deref_mut-cache-items.ensures.value,
  ap kept_queries c.deref_mut-cache-items.ensures.value,
)

pub tell-requires : goal.tell-requires
tell-requires c =
    c.loop-cache.invariant.1 c.loop-cache.cache-index _
    (some_at c.loop-cache.cache-items c.loop-cache.cache-index c.cache-item.result (omega arith)) (omega arith)

pub loop-cache-preserved : goal.loop-cache-preserved
loop-cache-preserved c = (
  told_more c.loop-cache.cache-items c.loop-cache.cache-index _ c.tell.new.self c.args.self.now.list.items c.args.slot
      (Some c.args.type_list.now) c.loop-cache.invariant.0
      (some_at c.loop-cache.cache-items c.loop-cache.cache-index c.cache-item.result (omega arith)) c.tell.ensures.told,
  room_after c.loop-cache.cache-items c.loop-cache.cache-index c.cache-item.result c.tell.new.self c.loop-cache.invariant.1,
  keep_more c.loop-cache.cache-items c.loop-cache.cache-index _ c.tell.new.self c.args.self.now.list.items (Some c.args.type_list.now)
      c.loop-cache.invariant.2
      (some_at c.loop-cache.cache-items c.loop-cache.cache-index c.cache-item.result (omega arith)) c.tell.ensures.kept,
  queries_kept c.loop-cache.cache-items c.loop-cache.cache-index _ c.cache-item.result c.tell.ensures.query ∙ c.loop-cache.invariant.3,
)

pub returns-clause-queries : goal.returns-clause-queries
returns-clause-queries c = queries_back _ _ _ c.args.self.now.list.len (omega arith) c.loop-cache.invariant.3

pub returns-clause-told : goal.returns-clause-told
returns-clause-told c =
    told_all c.args.self.now.list.items c.loop-cache.cache-items _ c.args.slot (Some c.args.type_list.now) c.loop-cache.cache-index
    c.args.self.now.list.len c.loop-cache.invariant.0 (omega arith) (omega arith)

pub returns-clause-kept : goal.returns-clause-kept
returns-clause-kept c =
    keep_all c.args.self.now.list.items c.loop-cache.cache-items _ (Some c.args.type_list.now) c.loop-cache.cache-index
    c.args.self.now.list.len c.loop-cache.invariant.2 (omega arith) (omega arith)
