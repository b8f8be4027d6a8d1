use Rattle.std.proofs.Common.{◌<◌, true≢false, refl, sym, ◌∙◌, length, arith}
use Rattle.eco_search.proofs.Search.{search_starts, search_ends, turn_goes_on, turn_pays}
use Rattle.eco_search.proofs.least.is_found.Goals as goal

pub loop-goal-init : goal.loop-goal-init
loop-goal-init g c =
    search_starts g.G.Node.PartialEq.eq g.met.G.Node.Eq.laws g.met.G.Graph.same (g.G.Graph.leads c.args.graph.now) c.args.roots.now
    _ _ c.requires c.in_ok-note_all.ensures

pub loop-goal-smaller : goal.loop-goal-smaller
loop-goal-smaller g c =
    let within : c.loop-goal.asked < length c.loop-goal.members.keys = omega (arith, c.len.ensures.len, c.if-asked-len.false, c.loop-goal.invariant.within) in
    turn_pays g.G.Node.PartialEq.eq g.met.G.Node.Eq.laws g.met.G.Graph.same (g.G.Graph.leads c.args.graph.now) (g.G.Graph.nodes c.args.graph.now)
    c.loop-goal.members.keys c.loop-goal.asked c.ask.new.members.keys c.in_ok-ask.ensures within

pub loop-goal-preserved : goal.loop-goal-preserved
loop-goal-preserved g c =
    let within : c.loop-goal.asked < length c.loop-goal.members.keys = omega (arith, c.len.ensures.len, c.if-asked-len.false, c.loop-goal.invariant.within) in
    turn_goes_on g.G.Node.PartialEq.eq g.met.G.Node.Eq.laws g.met.G.Graph.same (g.G.Graph.leads c.args.graph.now) (g.G.Graph.nodes c.args.graph.now)
    c.args.roots.now c.loop-goal.members.keys c.loop-goal.asked c.ask.new.members.keys c.in_ok-ask.ensures within c.loop-goal.invariant

pub returns-then-asked-len : goal.returns-then-asked-len
returns-then-asked-len g c =
    let all = search_ends g.G.Node.PartialEq.eq g.met.G.Node.Eq.laws g.met.G.Graph.same (g.G.Graph.leads c.args.graph.now) c.args.roots.now
    c.loop-goal.members.keys c.loop-goal.asked c.loop-goal.invariant (omega (arith, c.len.ensures.len, c.if-asked-len.true)) c.args.goal in
    (λ h. absurd (true≢false (sym h)), λ least. sym c.loop-goal-test.true ∙ c.contains.ensures ∙ all.1 least)

pub returns : goal.returns
returns g c =
    let there = sym c.contains.ensures ∙ c.loop-goal-test.false in
    (λ h. c.loop-goal.invariant.sound c.args.goal there, λ least. refl)
