use Rattle.eco_world.proofs.Common.{Bool, ap, ◌∙◌, sym, subst, err_from_is_err_and, option_copied, is_builtin, Meets, Renames, with_name, WorldState}
use Rattle.eco_world.proofs.Common.{record_name, asked_by, world_with}
use Rattle.eco_ids.specs.Renaming.{RenamesWith, may_rename}
use Rattle.eco_world.proofs.Steps.{lifted, met_lawful, rename_refused}
use Rattle.eco_world.proofs.world.World.rename.Goals as goal

pub returns-in_err-check_actor : goal.returns-in_err-check_actor
returns-in_err-check_actor c =
    let p = err_from_is_err_and c.from_residual.result c.from_residual.ensures.1 in
    rw (p.1, p.2) (rename_refused c.args.self.now c.args.entity _ c.in_err-check_actor.ensures.err (option_copied c.args.name))

pub returns : goal.returns
returns c =
    let qs = asked_by c.self.inside.queries.items in
    let e = c.args.entity in
    let name = option_copied c.args.name in
    let old = c.self.inside.store.entities in
    let new = c.rename.new.self.entities in
    let step = subst (λ (b : Bool). Meets (RenamesWith record_name with_name old e b name) (may_rename record_name old e b name) old c.rename.result new)
    (sym (ap (λ (x : WorldState). is_builtin x e) c.self.view_is ∙ c.in_ok-check_actor.ensures.ok.1)) c.rename.ensures.step in
    rw (← c.self.view_is)
    (lifted c.self.inside.edition qs
    (λ v. RenamesWith record_name with_name v e (is_builtin (world_with c.self.inside.edition old qs) e) name) _ old new c.rename.result step)

pub invariant_of-self : goal.invariant_of-self
invariant_of-self c =
    met_lawful (Renames c.args.self.now c.args.entity (option_copied c.args.name)) _ _ c.args.self.now _ _ c.self.view_is c.self.invariant
    (c.steps_keep_lawful.ensures.rename c.args.entity (option_copied c.args.name) _ _ _) (returns c)
