use Rattle.eco_ids.proofs.Common.{ap, ◌∙◌}
use Rattle.eco_ids.proofs.Places.{joins_at}
use Rattle.eco_ids.specs.Fingerprint.{fingerprint}
use Rattle.eco_ids.proofs.type_list.TypeList.mark_with.Goals as goal

pub returns : goal.returns
returns c =
    let at = joins_at c.args.self.now c.args.id c.requires in
    c.joined_by.ensures c.args.self.now at.0 (rw (← c.self.view_is) c.self.invariant.marked) ∙ ap fingerprint at.1
