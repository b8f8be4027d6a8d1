use Rattle.std.proofs.Common.{◌<◌, length, arith}
use Rattle.eco_search.proofs.Search.{search_starts, search_ends, turn_goes_on, turn_pays}
use Rattle.eco_search.proofs.least.least_set.Goals as goal

pub loop-asked-init : goal.loop-asked-init
loop-asked-init g c =
    search_starts g.G.Node.PartialEq.eq g.met.G.Node.Eq.laws g.met.G.Graph.same (g.G.Graph.leads c.args.graph.now) c.args.roots.now
    _ _ c.new-members.ensures.empty c.in_ok-note_all.ensures

pub loop-asked-smaller : goal.loop-asked-smaller
loop-asked-smaller g c =
    let within : c.loop-asked.asked < length c.loop-asked.members.keys = omega (arith, c.len.ensures.len, c.loop-asked-test.true) in
    turn_pays g.G.Node.PartialEq.eq g.met.G.Node.Eq.laws g.met.G.Graph.same (g.G.Graph.leads c.args.graph.now) (g.G.Graph.nodes c.args.graph.now)
    c.loop-asked.members.keys c.loop-asked.asked c.ask.new.members.keys c.in_ok-ask.ensures within

pub loop-asked-preserved : goal.loop-asked-preserved
loop-asked-preserved g c =
    let within : c.loop-asked.asked < length c.loop-asked.members.keys = omega (arith, c.len.ensures.len, c.loop-asked-test.true) in
    turn_goes_on g.G.Node.PartialEq.eq g.met.G.Node.Eq.laws g.met.G.Graph.same (g.G.Graph.leads c.args.graph.now) (g.G.Graph.nodes c.args.graph.now)
    c.args.roots.now c.loop-asked.members.keys c.loop-asked.asked c.ask.new.members.keys c.in_ok-ask.ensures within c.loop-asked.invariant

pub returns : goal.returns
returns g c =
    search_ends g.G.Node.PartialEq.eq g.met.G.Node.Eq.laws g.met.G.Graph.same (g.G.Graph.leads c.args.graph.now) c.args.roots.now
    c.loop-asked.members.keys c.loop-asked.asked c.loop-asked.invariant (omega (arith, c.len.ensures.len, c.loop-asked-test.false))
