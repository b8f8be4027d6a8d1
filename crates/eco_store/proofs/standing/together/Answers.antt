use Rattle.eco_store.proofs.AnswersCommon.{rules}
use Rattle.eco_store.proofs.Ranking.{in_order_ranked}
use Rattle.eco_store.proofs.standing.together.Goals as goal

pub returns-in-Some : goal.returns-in-Some
returns-in-Some c = rw c.alone.ensures (in_order_ranked c.args.entities.now c.in-Some.list.items (search rules) (search rules))
