use Rattle.eco_frame.proofs.Brings.{all_known, appended}
use Rattle.eco_frame.proofs.Done.{if_done}
use Rattle.eco_frame.proofs.brought.BroughtGraph.append_next.Goals as goal

pub returns-clause-exact : goal.returns-clause-exact
returns-clause-exact g c =
    let w = g.H.Holdings.world c.args.self.now.holdings.now in
    if_done
    (λ made. appended w c.args.key c.args.found.now.items c.append_brought.new.found.items c.ids_of_head.result.now made c.ids_of_head.ensures)
    c.append_brought.result c.append_brought.ensures

pub returns-clause-within : goal.returns-clause-within
returns-clause-within g c =
    all_known (g.H.Holdings.world c.args.self.now.holdings.now) c.heads_bring_patterns.ensures c.args.key c.target_is_known.ensures
