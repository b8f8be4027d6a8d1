use Rattle.eco_archetypes.proofs.Common.{refl, type_at}
use Rattle.eco_archetypes.proofs.ArchetypeLemmas.{found_kept}
use Rattle.eco_archetypes.proofs.archetypes.Archetypes.keep.Goals as goal

pub invariant_of-self : goal.invariant_of-self
invariant_of-self c =
    found_kept c.self.invariant (λ k. refl) c.self.invariant.types c.self.invariant.matches c.self.invariant.agreed
    (c.add.ensures.exact (type_at c.self.inside.tables) c.self.invariant.cached c.in_ok-slots.ensures
    (rw c.as_slice.ensures.keys at c.in_ok-only.ensures.kept))
