use Rattle.eco_index.proofs.Common.{ap, nat_eq, subst}
use Rattle.std.specs.List.{IsDistinct}
use Rattle.eco_index.proofs.SlotLists.{placed_distinct}
use Rattle.eco_index.proofs.id_index.slot_list.SlotList.as_slice.Goals as goal

pub returns-clause-distinct : goal.returns-clause-distinct
returns-clause-distinct c =
    subst (IsDistinct nat_eq) (ap (λ l. l.slots) c.self.view_is)
    (placed_distinct c.self.inside.first c.self.inside.slots.items c.self.inside.places.items c.self.invariant)
