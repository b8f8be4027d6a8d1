use Rattle.eco_archetypes.proofs.Common.{ap, ◌∙◌, lists_of, is_named_by_some}
use Rattle.eco_archetypes.proofs.Named.{listed_named}
use Rattle.eco_archetypes.proofs.archetypes.Archetypes.is_named.Goals as goal

pub returns : goal.returns
returns c =
    listed_named c.self.inside.tables (lists_of c.self.inside.by_id.slots) c.args.entity c.self.invariant.matches c.names.result c.names.ensures
    ∙ ap (λ slots. is_named_by_some slots c.args.entity) c.self.view_is
