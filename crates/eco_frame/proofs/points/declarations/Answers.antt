use Rattle.eco_frame.proofs.Common.{◌++◌, ◌∷◌, [], sym, subst, take, ◌+◌, AllZip, take_all, take_more, Declared, System, Declares, model_of}
use Rattle.eco_ids.proofs.Further.{zip_push}
use Rattle.eco_frame.proofs.points.declarations.Goals as goal

pub loop-system-preserved : goal.loop-system-preserved
loop-system-preserved g c =
    let b = g.B.SystemBody in
    let R : System g.row.B.Denot → Declared → Type 0 = λ s d. Declares (model_of b.reads_of b.writes_of b.kills_of b.taken b.commands s) d in
    subst (λ os. AllZip R (take (c.loop-system.system-index + 1) c.args.systems.now) os) (sym c.in_ok-push.ensures.items)
    (subst (λ ds. AllZip R ds (c.loop-system.declarations.items ++ c.declaration.result ∷ []))
    (sym (take_more c.args.systems.now c.loop-system.system-index c.system-item.result c.loop-system-test.true))
    (zip_push R (take c.loop-system.system-index c.args.systems.now) c.loop-system.declarations.items _ c.declaration.result c.loop-system.invariant
    (subst (λ s. R s c.declaration.result) c.system-item.is c.declaration.ensures)))

pub returns : goal.returns
returns g c =
    let b = g.B.SystemBody in
    let R : System g.row.B.Denot → Declared → Type 0 = λ s d. Declares (model_of b.reads_of b.writes_of b.kills_of b.taken b.commands s) d in
    subst (λ ss. AllZip R ss c.loop-system.declarations.items)
    (take_all c.loop-system.system-index c.args.systems.now c.loop-system-test.false) c.loop-system.invariant
