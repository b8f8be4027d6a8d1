use Rattle.eco_frame.proofs.BatchesCommon.{◌++◌, ◌+◌, [], map, refl, sym, ap, ◌∙◌, take, drop, slice_get, list_any, take_more, batched, clash_at}
use Rattle.eco_frame.proofs.BatchesCommon.{traits_in}
use Rattle.eco_frame.proofs.Joins.{join_end, join_more}
use Rattle.eco_frame.proofs.sync.join.Goals as goal

pub loop-at-init : goal.loop-at-init
loop-at-init c = record {
  late = refl;
  is_open = c.in_ok-batch.ensures.opens c.args.outlines.now;
  total = λ i. map (λ b. b.items) (c.new-done.ensures.items i)
      ++ batched (clash_at c.args.outlines.now c.args.systems.now) [] (c.in_ok-batch.ensures.places i) c.args.order.now;
}

pub loop-at-preserved : goal.loop-at-preserved
loop-at-preserved c =
    let order = c.args.order.now in
    let k = c.loop-at.at-index in
    let is_late = c.is_late-late.ensures (take k order) c.loop-at.invariant.late in
    let joins = c.in_ok-join_next.ensures (take k order) (drop (k + 1) order) is_late c.loop-at.invariant.is_open in
    record {
      late = is_late ∙ ap (list_any (λ s. traits_in (slice_get c.args.outlines.now s))) (sym (take_more order k 0 c.loop-at-test.true));
      is_open = joins.is_open;
      total = join_more c.args.outlines.now c.args.systems.now (λ b. b.items) order k 0 c.loop-at.done.items c.join_next.new.done.items c.loop-at.batch
          c.join_next.new.batch c.loop-at-test.true c.loop-at.invariant.total joins;
    }

pub returns : goal.returns
returns c =
    join_end c.args.outlines.now c.args.systems.now (λ b. b.items) c.args.order.now c.loop-at.at-index c.loop-at.done.items c.push.new.self.items
    c.loop-at.batch c.in_ok-take.field-0 c.loop-at-test.false c.loop-at.invariant.total c.in_ok-push.ensures.items c.in_ok-take.ensures.taken
