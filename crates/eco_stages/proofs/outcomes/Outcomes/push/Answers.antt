use Rattle.eco_stages.proofs.Common.{◌<◌, length, vec_capacity, subst, sym, arith, outcomes_of, Written}
use Rattle.eco_stages.proofs.Counted.{counts}
use Rattle.eco_stages.proofs.outcomes.Outcomes.push.Goals as goal

pub push_reserved-requires : goal.push_reserved-requires
push_reserved-requires c =
    let room : length (outcomes_of c.self.inside.refused.items c.self.inside.done) < vec_capacity c.self.inside.refused =
    subst (λ (w : Written). length w.outcomes < w.room) (sym c.self.view_is) c.requires in
    omega (arith, counts c.self.inside.refused.items c.self.inside.done, room)
