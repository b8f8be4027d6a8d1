use Rattle.eco_archetypes.proofs.Common.{ap, ◌∙◌, type_at, type_matches}
use Rattle.eco_archetypes.proofs.archetypes.Archetypes.is_listed.Goals as goal

pub returns : goal.returns
returns c =
    let p = c.args.pattern in
    let n = c.args.slot in
    c.lists.ensures ∙ c.self.invariant.matches p n ∙ ap (λ ts. type_matches (type_at ts n) p) c.self.view_is
