use Rattle.eco_frame.proofs.Common.{map, subst, AllByRecursion, AllZip, IfOk-weaker, ArePlacedBatches, Declared, System, ArePlaced, Declares, model_of}
use Rattle.eco_frame.proofs.Common.{IsLawfulSystem, SystemModel}
use Rattle.eco_frame.proofs.Placed.{placed_of}
use Rattle.eco_frame.proofs.points.sync_points.Goals as goal

pub returns-clause-batches : goal.returns-clause-batches
returns-clause-batches g c =
    let b = g.B.SystemBody in
    let f : System g.row.B.Denot → SystemModel = model_of b.reads_of b.writes_of b.kills_of b.taken b.commands in
    let w = g.H.Holdings.world c.args.holdings.now in
    let R : System g.row.B.Denot → Declared → Type 0 = λ s d. Declares (f s) d in
    let declared = subst (λ ss. AllZip R ss c.in_ok-declared.declared.items) c.as_slice-2.ensures c.in_ok-declared.ensures in
    IfOk-weaker c.sync_points_of.result
    (λ batches. ArePlacedBatches w c.deref.result.now (map (λ v. v.items) batches.items))
    (λ batches. ArePlaced w (map f c.args.systems.now) (map (λ v. v.items) batches.items))
    (λ batches h. placed_of c.systems_are_ordered.ensures.order f w c.args.systems.now c.in_ok-declared.declared.items (map (λ v. v.items) batches.items)
    declared (subst (λ ds. ArePlacedBatches w ds (map (λ v. v.items) batches.items)) c.deref.ensures.value h))
    c.sync_points_of.ensures

pub returns-clause-one_by_one : goal.returns-clause-one_by_one
returns-clause-one_by_one g c draws outcomes new lawful =
    let b = g.B.SystemBody in
    let f : System g.row.B.Denot → SystemModel = model_of b.reads_of b.writes_of b.kills_of b.taken b.commands in
    let systems = subst (λ ss. AllByRecursion IsLawfulSystem (map f ss)) c.as_slice.ensures c.are_lawful.ensures in
    c.frames_are_one_by_one.ensures.whole (g.H.Holdings.world c.args.holdings.now) (map f c.args.systems.now) draws outcomes new lawful systems
