use Rattle.eco_entities.proofs.Common.{common_steps, ◌≡◌, ap, ◌∙◌, true, None, arith, Indexed, is_alive, Registration}
use Rattle.eco_entities.proofs.Common.{renamed}
use Rattle.eco_entities.proofs.Owners.{own-died, death_of_renamed, alive_changed}
use Rattle.eco_entities.proofs.Registers.{registry_nameless}
use Rattle.eco_entities.proofs.entity_index.EntityIndex.kill.Goals as goal

pub invariant_of-self : goal.invariant_of-self
invariant_of-self c =
    let alive : is_alive c.self.inside.slots c.args.entity ≡ true =
    ap (λ (w : Indexed Registration). is_alive w c.args.entity) (c.self.view_is ∙ c.unname.ensures)
    ∙ alive_changed c.args.self.now c.args.entity (renamed None) c.requires
    in
    rw c.kill.ensures
    (registry_nameless c.args.entity c.self.invariant (own-died c.self.inside.slots c.args.entity alive))

pub returns : goal.returns
returns c = grind (arith, common_steps, death_of_renamed)
