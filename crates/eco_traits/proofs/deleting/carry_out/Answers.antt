use Rattle.eco_traits.proofs.CleanupCommon.{ap, ◌∙◌, entity_cmp, has_item, on_ok, world_of}
use Rattle.eco_traits.proofs.TakenOut.{all_left, taken_one_way}
use Rattle.eco_traits.proofs.deleting.carry_out.Goals as goal

pub delete_all-requires : goal.delete_all-requires
delete_all-requires g c = taken_one_way c.requires.0 c.args.changes.now c.requires.1.each

pub returns-clause-ok : goal.returns-clause-ok
returns-clause-ok g c = λ goes takes.
    on_ok c.delete_all.result
    (λ is. ap world_of (is ∙ all_left (g.S.Population.entities c.args.store.now) (has_item entity_cmp c.args.dead.now) goes c.args.changes.now takes))
    c.delete_all.ensures.ok

pub returns-clause-err : goal.returns-clause-err
returns-clause-err g c = c.delete_all.ensures.err
