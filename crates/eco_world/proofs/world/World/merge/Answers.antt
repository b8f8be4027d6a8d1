use Rattle.eco_world.proofs.Common.{all_commands}
use Rattle.eco_world.proofs.Merging.{merged}
use Rattle.eco_world.proofs.world.World.merge.Goals as goal

pub returns : goal.returns
returns c =
    rw c.of.ensures
    (merged c.args.self.now c.admit.new.self c.apply_stages.new.world c.args.admitted (all_commands c.args.stages.now) c.in_ok-outcomes.outcomes
    c.apply_stages.new.outcomes c.in_ok-outcomes.ensures.none c.in_ok-admit.ensures c.apply_stages.ensures)
