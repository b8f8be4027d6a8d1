use Rattle.eco_world.proofs.Common.{sym, ap, ◌∙◌, subst, IsLawful, first_entities, asked_by, world_with}
use Rattle.eco_world.proofs.Starting.{all_builtins}
use Rattle.eco_world.proofs.world.World.seeded.Goals as goal

pub invariant_of-result : goal.invariant_of-result
invariant_of-result c =
    subst IsLawful
    (sym (ap (λ v. world_with c.args.edition v (asked_by c.new-2.result.items)) c.in_ok-store.ensures.ok
    ∙ ap (λ ks. world_with c.args.edition (first_entities c.args.limit c.builtin_count.result) (asked_by ks)) c.new-2.ensures.items
    ∙ all_builtins c.args.edition c.args.limit c.builtin_count.result c.builtin_count.ensures))
    (c.first_world_is_lawful.ensures c.args.edition c.args.limit c.requires.at_least c.requires.at_most)
