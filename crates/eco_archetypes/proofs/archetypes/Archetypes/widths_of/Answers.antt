use Rattle.eco_archetypes.proofs.Common.{◌+◌, take, take_all, sym, subst, need, AreWidths}
use Rattle.eco_archetypes.proofs.Widths.{widths_next}
use Rattle.eco_archetypes.proofs.archetypes.Archetypes.widths_of.Goals as goal

pub loop-id-init : goal.loop-id-init
loop-id-init c = rw c.new-widths.ensures.items tt

pub loop-id-preserved : goal.loop-id-preserved
loop-id-preserved c =
    let k = c.loop-id.id-index in
    subst (AreWidths (need c.args.entities.now) c.args.self.now (take (k + 1) c.args.ids.now)) (sym c.in_ok-push.ensures.ok)
    (widths_next _ _ c.args.ids.now c.loop-id.widths.items k _ c.width_of.result c.loop-id-test.true c.loop-id.invariant c.width_of.ensures)

pub returns : goal.returns
returns c =
    subst (λ ids. AreWidths (need c.args.entities.now) c.args.self.now ids c.loop-id.widths.items)
    (take_all c.loop-id.id-index c.args.ids.now c.loop-id-test.false) c.loop-id.invariant
