use Rattle.eco_ids.proofs.Common.{ap, ◌∙◌}
use Rattle.eco_ids.proofs.Places.{leaves_at}
use Rattle.eco_ids.specs.Fingerprint.{fingerprint}
use Rattle.eco_ids.proofs.type_list.TypeList.mark_without.Goals as goal

pub returns : goal.returns
returns c =
    let at = leaves_at c.args.self.now c.args.id (rw (← c.self.view_is) c.self.invariant.ascending) c.requires in
    c.left_by.ensures c.args.self.now at.0 at.1 (rw (← c.self.view_is) c.self.invariant.marked) ∙ ap fingerprint at.2
