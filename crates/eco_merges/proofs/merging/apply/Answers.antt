use Rattle.eco_merges.proofs.Merges.{one_done}
use Rattle.eco_ids.specs.Run.{Add}
use Rattle.eco_merges.proofs.merging.apply.Goals as goal

pub returns-in-Add : goal.returns-in-Add
returns-in-Add g c =
    rw c.in-Add.is
    (one_done (g.W.MergeTarget.world c.args.world.now) (g.W.MergeTarget.world c.apply_add.new.self) (Add c.in-Add.entity c.in-Add.id) c.apply_add.result
    c.args.outcomes.now c.push-in-Add.new.self c.push-in-Add.ensures.written c.push-in-Add.ensures.room c.apply_add.ensures)
