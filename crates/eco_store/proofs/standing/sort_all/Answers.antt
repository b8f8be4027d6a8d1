use Rattle.eco_store.proofs.AnswersCommon.{rules, answers_always, Standing}
use Rattle.eco_store.proofs.standing.sort_all.Goals as goal

pub returns : goal.returns
returns c = record {
  all = search rules;
  sorted = c.sort_unstable_by_key.ensures.sorted (λ (s : Standing). s.entity) (answers_always _ _ _ (λ f a r q k. search rules));
}
