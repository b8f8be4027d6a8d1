use Rattle.eco_index.proofs.EdgeLists.{link_twofold}
use Rattle.eco_index.proofs.edges.Edges.link.Goals as goal

pub invariant_of-self : goal.invariant_of-self
invariant_of-self c = record {
  twofold = link_twofold c.args.self.now.lists.items c.link_both.new.lists.items c.args.from c.args.to c.args.id c.link_both.result c.requires.apart
      c.requires.from c.requires.to c.args.self.now.twofold c.link_both.ensures.ok c.link_both.ensures.err;
}
