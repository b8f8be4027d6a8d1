use Rattle.eco_bodies.proofs.Common.{rules, pos}
use Rattle.eco_bodies.proofs.Fields.{summed_more}
use Rattle.eco_bodies.proofs.sum.sums_of.Goals as goal

pub loop-k-preserved : goal.loop-k-preserved
loop-k-preserved g c = summed_more c.args.a.now c.args.b.now c.loop-k.fields c.loop-k.k (pos 0) (pos 0) _
    (search rules) (search rules) c.loop-k.invariant (search rules)
