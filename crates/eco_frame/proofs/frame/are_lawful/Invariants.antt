use Rattle.eco_frame.proofs.Common.{map, take, AllByRecursion, IsLawfulSystem, model_of}
use Rattle.eco_frame.proofs.frame.are_lawful.Given as goal

-- those so far
abbrev pub invariant-loop-system : goal.invariant-loop-system
invariant-loop-system g l =
    let b = g.B.SystemBody in
    AllByRecursion IsLawfulSystem (map (model_of b.reads_of b.writes_of b.kills_of b.taken b.commands) (take l.system-index l.systems))
