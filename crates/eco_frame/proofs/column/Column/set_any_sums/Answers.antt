use Rattle.eco_tables.specs.Values.{whole_values}
use Rattle.eco_bodies.proofs.RowSums.{all_recorded, more_recorded, none_recorded}
use Rattle.eco_frame.proofs.column.Column.set_any_sums.Goals as goal

pub loop-k-init : goal.loop-k-init
loop-k-init c =
    none_recorded (whole_values c.args.self.now.values) (whole_values c.args.other.now.values) c.args.id c.args.first c.args.entities.now c.args.stage.now

pub loop-k-preserved : goal.loop-k-preserved
loop-k-preserved c =
    more_recorded (whole_values c.args.self.now.values) (whole_values c.args.other.now.values) c.args.id c.args.first c.args.entities.now c.loop-k.k _
    c.args.stage.now c.loop-k.stage _ c.loop-k-test.true c.loop-k.invariant c.in_ok-set_any_sum.ensures.ok

pub returns : goal.returns
returns c =
    all_recorded (whole_values c.args.self.now.values) (whole_values c.args.other.now.values) c.args.id c.args.first c.args.entities.now c.loop-k.k
    c.args.stage.now c.loop-k.stage c.loop-k-test.false c.loop-k.invariant
