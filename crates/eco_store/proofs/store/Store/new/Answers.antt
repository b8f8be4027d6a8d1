use Rattle.eco_store.proofs.Laid.{done_idle, laid_empty}
use Rattle.eco_store.proofs.store.Store.new.Goals as goal

pub invariant_of-result : goal.invariant_of-result
invariant_of-result c = record {
  laid = laid_empty _ _ _ c.new.ensures.indices c.new-2.ensures;
  done = done_idle _ _ c.new-3.ensures;
}
