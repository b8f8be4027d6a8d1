use Rattle.eco_index.proofs.Common.{true≢false, sym, ◌∙◌}
use Rattle.eco_index.proofs.SlotLists.{absent}
use Rattle.eco_index.proofs.id_index.slot_list.SlotList.place.Goals as goal

pub returns-else-has_at-clause-none : goal.returns-else-has_at-clause-none
returns-else-has_at-clause-none c =
    absent c.args.self.now.slots c.args.slot c.noted-place.result c.noted-place.ensures
    (λ there. true≢false (sym (c.has_at.ensures.1 there) ∙ c.if-has_at.false))
