use Rattle.eco_frame.proofs.Common.{◌++◌, ◌∷◌, [], List, ap, map, subst, sym, take, ◌∙◌, map_push, take_all, take_more, AllByRecursion, System}
use Rattle.eco_frame.proofs.Common.{IsLawfulSystem, SystemModel, model_of}
use Rattle.eco_frame.proofs.frame.are_lawful.Goals as goal

one_more : (xs : List SystemModel) (x : SystemModel) → AllByRecursion IsLawfulSystem xs → IsLawfulSystem x
    → AllByRecursion IsLawfulSystem (xs ++ x ∷ [])
one_more [] x h l = (l, tt)
one_more (y ∷ xs) x h l = (h.0, one_more xs x h.1 l)

pub loop-system-preserved : goal.loop-system-preserved
loop-system-preserved g c =
    let b = g.B.SystemBody in
    let f : System g.row.B.Denot → SystemModel = model_of b.reads_of b.writes_of b.kills_of b.taken b.commands in
    let systems = c.args.systems.now in
    let k = c.loop-system.system-index in
    let system = c.system-item.result in
    let more = take_more systems k system c.loop-system-test.true ∙ ap (λ s. take k systems ++ s ∷ []) (sym c.system-item.is) in
    subst (AllByRecursion IsLawfulSystem) (sym (ap (map f) more ∙ map_push f (take k systems) system))
    (one_more (map f (take k systems)) (f system) c.loop-system.invariant c.systems_are_lawful.ensures)

pub returns : goal.returns
returns g c =
    let b = g.B.SystemBody in
    let f : System g.row.B.Denot → SystemModel = model_of b.reads_of b.writes_of b.kills_of b.taken b.commands in
    subst (λ ss. AllByRecursion IsLawfulSystem (map f ss))
    (take_all c.loop-system.system-index c.args.systems.now c.loop-system-test.false) c.loop-system.invariant
