use Rattle.eco_traits.proofs.CleanupCommon.{◌∙◌, sym, subst, IsShown}
use Rattle.eco_traits.proofs.Relationships.{deletes_exactly}
use Rattle.eco_traits.proofs.role.any_of_many.Goals as goal

pub returns : goal.returns
returns c =
    let v = c.args.places.now.entities in
    let slots = c.archetypes-archetypes.result.now in
    c.is_head_or_pair.ensures
    ∙ deletes_exactly v slots (subst (IsShown v) (sym c.archetypes-archetypes.ensures) c.are_shown.ensures) c.args.member c.args.ids.now
    c.listed-slots.result.now c.listed-slots.ensures.listed
