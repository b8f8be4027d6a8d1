use Rattle.eco_world.proofs.Common.{ap, ◌∙◌, list_any, Entity, pattern_matches, Record, living, type_of_record}
use Rattle.eco_ids.specs.declared.pattern.Pattern.{Pattern}
use Rattle.eco_world.proofs.Asking.{held_is}
use Rattle.eco_world.proofs.world.World.is_had.Goals as goal

pub returns : goal.returns
returns c =
    c.is_held.ensures
    ∙ ap (λ (p : Pattern). list_any (λ (x : Entity × Record). list_any (pattern_matches p) (type_of_record x.1))
    (living c.args.self.now)) c.exactly.ensures
    ∙ held_is c.args.id (living c.args.self.now)
