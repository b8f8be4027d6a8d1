use Rattle.eco_archetypes.proofs.Common.{ap, ◌∙◌, type_at, type_matches}
use Rattle.eco_archetypes.proofs.archetypes.Archetypes.listed.Goals as goal

pub returns-clause-listed : goal.returns-clause-listed
returns-clause-listed c n =
    let p = c.args.pattern in
    c.slots.ensures.listed n ∙ c.self.invariant.matches p n ∙ ap (λ ts. type_matches (type_at ts n) p) c.self.view_is
