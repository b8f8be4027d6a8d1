use Rattle.std.proofs.Common.{subst}
use Rattle.eco_ids.specs.Outcome.{Meets}
use Rattle.eco_ids.specs.Step.{Sets, may_set}
use Rattle.eco_frame.proofs.Typed.{set_fits}
use Rattle.eco_frame.proofs.typed_id.TypedId.set.Goals as goal

pub returns-clause-set : goal.returns-clause-set
returns-clause-set g c =
    let w = c.args.world.now in
    subst
    (λ v. Meets (Sets w c.args.entity c.args.self.id v) (may_set w c.args.entity c.args.self.id v) w c.set.result c.set.new.self)
    c.to_value.ensures c.set.ensures

pub returns-clause-fits : goal.returns-clause-fits
returns-clause-fits g c = λ typed.
    set_fits c.args.world.now c.args.entity c.args.self.id _ typed _ (g.met.C.Component.narrow c.args.value.now)
