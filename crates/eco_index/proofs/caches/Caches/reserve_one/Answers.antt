use Rattle.eco_index.proofs.CachesCommon.{ap, arith, ◌∙◌, cache_states, some_at}
use Rattle.std.proofs.lemmas.List.{length-set}
use Rattle.eco_index.proofs.Caching.{queries_of, room_back, room_more, states_kept, stay_back, stay_more, still_exact, written_back}
use Rattle.eco_index.proofs.caches.Caches.reserve_one.Goals as goal

pub loop-cache-init : goal.loop-cache-init
loop-cache-init c = (
  still_exact _ _ c.deref_mut-cache-items.ensures.value,
  λ k x at low. absurd (omega (arith, low)),
  ap cache_states c.deref_mut-cache-items.ensures.value,
)

pub returns-in_err-reserve_one-clause-same : goal.returns-in_err-reserve_one-clause-same
returns-in_err-reserve_one-clause-same c =
    let e = c.in_err-reserve_one.ensures in
    let items = c.loop-cache.cache-items in
    let i = c.loop-cache.cache-index in
    let long = length-set items i c.reserve_one.new.self in
    stay_back _ _ _ c.args.self.now.list.len (omega (arith, long))
    (stay_more c.args.self.now.list.items items i _ _ (some_at items i c.cache-item.result (omega arith)) e.query e.slots e.only c.loop-cache.invariant.0)

pub returns-in_err-reserve_one-clause-states : goal.returns-in_err-reserve_one-clause-states
returns-in_err-reserve_one-clause-states c =
    let e = c.in_err-reserve_one.ensures in
    let long = length-set c.loop-cache.cache-items c.loop-cache.cache-index c.reserve_one.new.self in
    ap cache_states (written_back c.args.self.now.list.len _ _ (omega (arith, long)))
    ∙ states_kept c.loop-cache.cache-items c.loop-cache.cache-index c.reserve_one.new.self c.cache-item.result e.query e.slots e.only
    ∙ c.loop-cache.invariant.2

pub returns-in_err-reserve_one-clause-queries : goal.returns-in_err-reserve_one-clause-queries
returns-in_err-reserve_one-clause-queries c = queries_of _ _ (returns-in_err-reserve_one-clause-states c)

pub loop-cache-preserved : goal.loop-cache-preserved
loop-cache-preserved c =
    let e = c.in_ok-reserve_one.ensures in
    let items = c.loop-cache.cache-items in
    let i = c.loop-cache.cache-index in (
      stay_more c.args.self.now.list.items items i _ _ (some_at items i c.cache-item.result (omega arith)) e.query e.slots e.only
          c.loop-cache.invariant.0,
      room_more c.args.self.now.list.items items i _ e.room c.loop-cache.invariant.1,
      states_kept items i c.reserve_one.new.self c.cache-item.result e.query e.slots e.only ∙ c.loop-cache.invariant.2,
    )

pub returns-clause-states : goal.returns-clause-states
returns-clause-states c = ap cache_states (written_back c.args.self.now.list.len _ _ (omega arith)) ∙ c.loop-cache.invariant.2

pub returns-clause-queries : goal.returns-clause-queries
returns-clause-queries c = queries_of _ _ (returns-clause-states c)

pub returns-clause-same : goal.returns-clause-same
returns-clause-same c = stay_back _ _ _ c.args.self.now.list.len (omega arith) c.loop-cache.invariant.0

pub returns-clause-room : goal.returns-clause-room
returns-clause-room c =
    room_back c.loop-cache.cache-items _ c.args.self.now.list.len c.loop-cache.cache-index (omega arith) (omega (arith, c.loop-cache-test.false))
    c.loop-cache.invariant.1
