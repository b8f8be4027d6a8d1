use Rattle.eco_index.proofs.Sweeping.{twofold_swept}
use Rattle.eco_index.proofs.edges.Edges.keep_there.Goals as goal

pub invariant_of-self : goal.invariant_of-self
invariant_of-self g c = record {
  twofold = twofold_swept (g.T.Occupancy.has_table c.args.tables.now) c.args.self.now.lists.items c.keep_in_each.new.lists.items c.keep_in_each.ensures
      c.args.self.now.twofold;
}
