use Rattle.eco_index.proofs.Common.{ap, list_any, nat_eq, has_slot}
use Rattle.eco_index.proofs.IndexCopies.{cloned}
use Rattle.eco_index.proofs.type_map.TypeMap.try_copy.Goals as goal

pub returns : goal.returns
returns c p n = cloned nat_eq (λ o. has_slot o n) (λ s t e. ap (list_any (nat_eq n)) e) p _ _ c.in_ok-clone.ensures.cases
