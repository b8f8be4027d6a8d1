use Rattle.eco_traits.proofs.CleanupCommon.{◌∙◌, world_of}
use Rattle.eco_traits.proofs.Roles.{policy_of_ids}
use Rattle.eco_traits.proofs.policy.policy.Goals as goal

pub returns-in-Some : goal.returns-in-Some
returns-in-Some c =
    c.action_in.ensures ∙ policy_of_ids (world_of c.args.places.now.entities) c.args.entity c.args.condition c.in-Some.ids.now c.in-Some.ensures
