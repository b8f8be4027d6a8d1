use Rattle.std.proofs.Common.{Result, Ok, Err, OnOk}
use Rattle.eco_search.proofs.Search.{turn}
use Rattle.eco_search.proofs.least.ask.Goals as goal

if_done : {E A B : Type 0} → (A → B) → (r : Result (Unit {0}) E) → OnOk r A → OnOk r B
if_done f (Ok u) h = f h
if_done f (Err e) h = h

pub returns : goal.returns
returns g c =
    if_done
    (λ noted. turn g.G.Node.PartialEq.eq g.met.G.Node.Eq.laws g.met.G.Graph.same (g.G.Graph.leads c.args.graph.now) (g.G.Graph.nodes c.args.graph.now)
    c.args.members.now.keys _ _ _ _ _ c.args.asked c.index-as_slice-asked.result
    c.as_slice.ensures.keys c.index-as_slice-asked.is c.clear.ensures.items c.deref.ensures.value c.in_ok-append_next.ensures.exact
    c.append_next.ensures.within noted)
    c.note_all.result c.note_all.ensures
