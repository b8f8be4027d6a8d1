use Rattle.eco_world.proofs.Common.{sym, ap, ◌∙◌, subst, IsLawful, changed, with_value, WorldState, has, asked_by, world_with}
use Rattle.eco_world.proofs.Changes.{written_lawful, written_there}
use Rattle.eco_world.proofs.Fitting.{fits_stored}
use Rattle.eco_world.proofs.world.World.write.Goals as goal

pub set_value-requires-clause-fits : goal.set_value-requires-clause-fits
set_value-requires-clause-fits c =
    let qs = asked_by c.self.inside.queries.items in
    fits_stored c.self.inside.edition c.self.inside.store.entities qs c.args.id c.args.value (rw (← c.self.view_is) at c.requires.fits)

pub invariant_of-self : goal.invariant_of-self
invariant_of-self c =
    let qs = asked_by c.self.inside.queries.items in
    let w = world_with c.self.inside.edition c.self.inside.store.entities qs in
    subst IsLawful (sym (ap (λ v. world_with c.self.inside.edition v qs) c.set_value.ensures.written))
    (written_lawful w c.args.entity c.self.invariant c.args.id c.args.value
    (λ there. subst (λ (x : WorldState). IsLawful (changed x c.args.entity (with_value c.args.id c.args.value))) (sym c.self.view_is)
    (c.requires.lawful (ap (λ (x : WorldState). has x c.args.entity c.args.id) (sym c.self.view_is) ∙ there))))

pub returns-clause-written : goal.returns-clause-written
returns-clause-written c =
    let qs = asked_by c.self.inside.queries.items in
    let w = world_with c.self.inside.edition c.self.inside.store.entities qs in
    rw (← c.self.view_is, ap (λ v. world_with c.self.inside.edition v qs) c.set_value.ensures.written)
    (written_there w c.args.entity c.self.invariant c.args.id c.args.value c.set_value.result c.set_value.ensures.had)
