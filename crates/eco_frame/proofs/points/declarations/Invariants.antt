use Rattle.eco_frame.proofs.Common.{take, AllZip, Declares, model_of}
use Rattle.eco_frame.proofs.points.declarations.Given as goal

abbrev pub invariant-loop-system : goal.invariant-loop-system
invariant-loop-system g l =
    AllZip (λ s d. Declares (model_of g.B.SystemBody.reads_of g.B.SystemBody.writes_of g.B.SystemBody.kills_of
    g.B.SystemBody.taken g.B.SystemBody.commands s) d)
    (take l.system-index l.systems) l.declarations.items
