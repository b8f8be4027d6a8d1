use Rattle.eco_store.proofs.AnswersCommon.{rules, IsPermutation, IsSorted, IsPermutation-map, entity_cmp, in_first}
use Rattle.eco_store.proofs.Ranking.{first_sorted}
use Rattle.eco_store.proofs.standing.sorted.Goals as goal

pub returns : goal.returns
returns c =
    let list = c.sort_unstable.new.self.items in
    let same : IsPermutation c.args.entities.now list = search rules in
    let up : IsSorted entity_cmp list = search rules in
    rw c.alone.ensures (record {
      all = IsPermutation-map in_first c.args.entities.now list same;
      sorted = first_sorted list up;
    })
