use Rattle.eco_entities.proofs.Common.{ap, sym, ◌∙◌, named_entity, given_name, own_name, Indexed, Registration, IsListed}
use Rattle.eco_entities.proofs.NamedEntities.{registry_finds, registry_named_entity}
use Rattle.eco_entities.proofs.entity_index.EntityIndex.lookup.Goals as goal

pub returns-clause-named_entity : goal.returns-clause-named_entity
returns-clause-named_entity c =
    registry_named_entity (IsListed c.self.inside.names) c.self.inside.slots c.args.name.now c.get.result c.self.invariant c.get.ensures.bears
    c.get.ensures.none
    ∙ ap (λ (w : Indexed Registration). named_entity given_name w c.args.name.now) c.self.view_is

pub returns-clause-exact : goal.returns-clause-exact
returns-clause-exact c = λ e.
    let exact = registry_finds (IsListed c.self.inside.names) c.self.inside.slots c.args.name.now c.get.result c.self.invariant c.get.ensures.bears
    c.get.ensures.none in
    let own = ap (λ (w : Indexed Registration). own_name given_name w e) c.self.view_is in
    (λ h. sym own ∙ exact.0 e h, λ h. exact.1 e (own ∙ h))
