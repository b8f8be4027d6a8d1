use Rattle.eco_entities.proofs.Common.{◌∙◌, subst, SameTexts}
use Rattle.eco_entities.proofs.PageChanges.{copied_sorted, copied_texts}
use Rattle.eco_entities.proofs.page.PageClone.clone.Goals as goal

pub returns : goal.returns
returns c = record {
  cases = subst (λ es. SameTexts es c.in_ok-clone.field-0.items) c.self.view_is (copied_texts _ _ c.in_ok-clone.ensures.cases.0);
}

pub invariant_of-result : goal.invariant_of-result
invariant_of-result c = copied_sorted _ _ c.in_ok-clone.ensures.cases.0 ∙ c.self.invariant
