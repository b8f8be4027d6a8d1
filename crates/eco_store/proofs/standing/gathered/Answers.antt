use Rattle.eco_store.proofs.Ranking.{standings_step}
use Rattle.eco_store.proofs.standing.gathered.Goals as goal

pub loop-place-preserved : goal.loop-place-preserved
loop-place-preserved c =
    standings_step c.loop-place.place c.args.tables.now c.args.slots.now c.loop-place.list.items c.add_standing.new.list.items _ c.entities_at.result.now
    c.loop-place-test.true c.in_ok-add_standing.ensures c.entities_at.ensures c.loop-place.invariant
