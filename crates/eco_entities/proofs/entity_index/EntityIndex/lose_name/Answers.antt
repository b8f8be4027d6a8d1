use Rattle.eco_entities.proofs.Common.{◌≡◌, sym, ap, ◌∙◌, true, None, Some, inl, is_alive, own_name, given_name}
use Rattle.eco_entities.proofs.Owners.{apart_from, own-renamed}
use Rattle.eco_entities.proofs.Registers.{registry_lose, registry_nameless}
use Rattle.eco_entities.proofs.entity_index.EntityIndex.lose_name.Goals as goal

pub invariant_of-self : goal.invariant_of-self
invariant_of-self c =
    let w = c.self.inside.slots in
    let e = c.args.entity in
    let alive : is_alive w e ≡ true = rw c.self.view_is c.requires in
    let named : own_name given_name w e ≡ Some c.as_str.result.now = sym c.in-Some.ensures.was ∙ ap Some (sym c.as_str.ensures) in
    rw c.take_name.ensures.renamed
    (registry_lose e c.self.invariant
    (λ n x apart own. c.remove.ensures.others n x (λ is. apart (c.self.invariant.unique x e n own (named ∙ ap Some (sym is))))
    (inl (apart_from w e x n alive apart own)))
    (own-renamed w e None alive))

pub invariant_of-self-in_default : goal.invariant_of-self-in_default
invariant_of-self-in_default c =
    rw c.take_name.ensures.renamed
    (registry_nameless c.args.entity c.self.invariant (own-renamed c.self.inside.slots c.args.entity None (rw c.self.view_is c.requires)))
