use Rattle.eco_index.proofs.Common.{rules, key_of, same_key}
use Rattle.eco_index.proofs.Sweeping.{key-Decides, swept_absent, swept_filled, swept_listed}
use Rattle.eco_index.proofs.id_index.IdIndex.keep_there.Goals as goal

pub invariant_of-self : goal.invariant_of-self
invariant_of-self g c = record {
  full = λ k.
      swept_filled same_key key-Decides _ (g.T.Occupancy.has_table c.args.tables.now) _ (λ k v b w f' call. search rules) _ _
      c.retain.ensures.filtered k;
  marked = λ k unmarked.
      swept_absent same_key key-Decides _ (g.T.Occupancy.has_table c.args.tables.now) _ (λ k v b w f' call. search rules) _ _
      c.retain.ensures.filtered k (c.args.self.now.marked k unmarked);
}

pub returns : goal.returns
returns g c = λ p n.
    swept_listed same_key key-Decides _ (g.T.Occupancy.has_table c.args.tables.now) _ (λ k v b w f' call. search rules) _ _
    c.len-count.ensures.unique c.retain.ensures.unique c.retain.ensures.filtered (key_of p) n
