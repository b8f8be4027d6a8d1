use Rattle.eco_world.proofs.Common.{option_copied, Creates, Makes, bare, record_name, asked_by}
use Rattle.eco_world.proofs.Steps.{lifted, met_lawful}
use Rattle.eco_world.proofs.world.World.create.Goals as goal

pub returns : goal.returns
returns c =
    let qs = asked_by c.self.inside.queries.items in
    rw (← c.self.view_is)
    (lifted c.self.inside.edition qs
    (λ v. Makes record_name v (bare (option_copied c.args.name))) _ c.self.inside.store.entities c.create_bare.new.self.entities c.create_bare.result
    c.create_bare.ensures.step)

pub invariant_of-self : goal.invariant_of-self
invariant_of-self c =
    met_lawful (Creates c.args.self.now (option_copied c.args.name)) _ _ c.args.self.now _ _ c.self.view_is c.self.invariant
    (c.steps_keep_lawful.ensures.create (option_copied c.args.name) _ _ _) (returns c)
