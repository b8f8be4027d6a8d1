use Rattle.eco_index.proofs.Common.{rules, nat_eq, Decides-eqb}
use Rattle.eco_index.proofs.Sweeping.{swept_listed}
use Rattle.eco_index.proofs.type_map.TypeMap.keep_there.Goals as goal

pub returns : goal.returns
returns g c =
    swept_listed nat_eq Decides-eqb _ (g.T.Occupancy.has_table c.args.tables.now) _ (λ k v b w f' call. search rules) _ _ c.len-count.ensures.unique
    c.retain.ensures.unique c.retain.ensures.filtered
