use Rattle.eco_bodies.proofs.Common.{map}
use Rattle.eco_ids.specs.World.{padded}
use Rattle.eco_bodies.proofs.RowSums.{all_recorded, more_recorded, none_recorded}
use Rattle.eco_bodies.proofs.sum.set_sums_in_rows.Goals as goal

pub loop-k-init : goal.loop-k-init
loop-k-init g c = none_recorded (map padded c.args.one.now) (map padded c.args.other.now) c.args.id c.args.first c.args.entities.now c.args.stage.now

pub loop-k-preserved : goal.loop-k-preserved
loop-k-preserved g c =
    more_recorded (map padded c.args.one.now) (map padded c.args.other.now) c.args.id c.args.first c.args.entities.now c.loop-k.k _
    c.args.stage.now c.loop-k.stage _ c.loop-k-test.true c.loop-k.invariant c.in_ok-set_sum_in_row.ensures.ok

pub returns : goal.returns
returns g c =
    all_recorded (map padded c.args.one.now) (map padded c.args.other.now) c.args.id c.args.first c.args.entities.now c.loop-k.k
    c.args.stage.now c.loop-k.stage c.loop-k-test.false c.loop-k.invariant
