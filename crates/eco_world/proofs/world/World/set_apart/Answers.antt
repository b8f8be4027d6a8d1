use Rattle.eco_world.proofs.Common.{subst}
use Rattle.eco_ids.specs.Outcome.{Meets}
use Rattle.eco_ids.specs.Step.{Sets, may_set}
use Rattle.eco_world.proofs.world.World.set_apart.Goals as goal

pub returns-clause-met : goal.returns-clause-met
returns-clause-met g c =
    let w = c.args.self.now in
    let e = c.args.set.now.0 in
    let i = c.args.id in
    subst (λ v. Meets (Sets w e i v) (may_set w e i v) w c.set_after.result c.set_after.new.self) c.of.ensures c.set_after.ensures.met
