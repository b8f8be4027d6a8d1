use Rattle.eco_archetypes.proofs.Common.{arith}
use Rattle.eco_archetypes.proofs.Searching.{all_found, none_yet}
use Rattle.eco_archetypes.proofs.archetypes.Archetypes.search.Goals as goal

pub loop-place-init : goal.loop-place-init
loop-place-init g c = rw c.new-found.ensures.items (none_yet (g.T.TypeTest.test c.args.test.now) c.args.self.now)

pub returns-clause-all : goal.returns-clause-all
returns-clause-all g c =
    all_found (g.T.TypeTest.test c.args.test.now) (g.T.TypeTest.groups c.args.test.now) c.shortest_group-group.result c.loop-place.place c.args.self.now
    c.loop-place.found.items c.shortest_group-group.ensures.needed c.shortest_group-group.ensures.within
    (omega (arith, c.loop-place.auto.place-end, c.loop-place-test.false, c.pattern_count-place-end.ensures)) c.loop-place.invariant
