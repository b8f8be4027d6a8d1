use Rattle.eco_bodies.proofs.Common.{map, slot_view}
use Rattle.eco_bodies.proofs.Allowed.{allowed_by}
use Rattle.eco_bodies.proofs.script.Script.new.Goals as goal

pub invariant_of-result : goal.invariant_of-result
invariant_of-result c = record {
  allowed =
      allowed_by c.args.query.now (map slot_view c.slots-2.result.now) c.args.actions.items c.deref-2.result.now c.deref-3.result.now
      c.in_ok-writes.writes.items c.some_kills-kills.result
      c.slots-2.ensures c.deref-2.ensures.value c.deref-3.ensures.value c.in_ok-writes.ensures c.some_kills-kills.ensures;
}
