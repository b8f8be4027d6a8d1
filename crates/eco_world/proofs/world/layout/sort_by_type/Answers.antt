use Rattle.eco_world.proofs.Common.{rules, answers_always, TableRows}
use Rattle.eco_world.proofs.world.layout.sort_by_type.Goals as goal

pub returns-then-not-is_by_type-clause-ordered : goal.returns-then-not-is_by_type-clause-ordered
returns-then-not-is_by_type-clause-ordered c =
    c.sort_unstable_by_key.ensures.sorted (λ (t : TableRows). t.ids) (answers_always _ _ _ (λ f a r q k. search rules))
