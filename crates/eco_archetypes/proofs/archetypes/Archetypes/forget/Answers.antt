use Rattle.eco_archetypes.proofs.ArchetypeLemmas.{found_dropped, rowless-type_at}
use Rattle.eco_archetypes.proofs.archetypes.Archetypes.forget.Goals as goal

pub invariant_of-self : goal.invariant_of-self
invariant_of-self c =
    found_dropped c.self.invariant c.in-Some.ensures.dropped
    (rowless-type_at c.self.inside.tables c.args.slot c.in-Some.type_list c.in-Some.ensures.answer)
    (rw c.mark.ensures at c.take.ensures) (rw c.as_slice.ensures.ids at c.take_all.ensures) c.cut.ensures c.forget.ensures.told
