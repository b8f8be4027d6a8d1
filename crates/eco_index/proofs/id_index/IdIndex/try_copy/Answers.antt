use Rattle.eco_index.proofs.Common.{ap, ◌∙◌, length, nat_eq, list_any, has_slot, is_empty, key_of, same_key}
use Rattle.eco_index.proofs.IndexCopies.{cloned}
use Rattle.eco_index.proofs.id_index.IdIndex.try_copy.Goals as goal

pub invariant_of-result : goal.invariant_of-result
invariant_of-result c = record {
  full = λ k. cloned same_key is_empty (λ s t e. ap (λ ns. nat_eq (length ns) 0) e) k _ _ c.in_ok-slots.ensures.cases ∙ c.args.self.now.full k;
  marked = c.in_ok-marks.ensures;
}

pub returns : goal.returns
returns c p n = cloned same_key (λ o. has_slot o n) (λ s t e. ap (list_any (nat_eq n)) e) (key_of p) _ _ c.in_ok-slots.ensures.cases
