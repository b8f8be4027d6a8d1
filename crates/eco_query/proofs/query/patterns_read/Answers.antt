use Rattle.eco_query.proofs.Common.{flat_map, ap, ◌∙◌, take_all, flat_map_further, patterns_of, term_view, Slot}
use Rattle.eco_query.proofs.query.patterns_read.Goals as goal

pub loop-slot-preserved : goal.loop-slot-preserved
loop-slot-preserved c =
    flat_map_further c.args.slots.now c.loop-slot.slot-index _ c.slot-item.result (λ s. patterns_of (term_view s.term)) _ _ c.loop-slot-test.true
    c.slot-item.is c.loop-slot.invariant c.in_ok-add_patterns.ensures.ok

pub returns : goal.returns
returns c =
    c.loop-slot.invariant
    ∙ ap (flat_map (λ (s : Slot). patterns_of (term_view s.term))) (take_all c.loop-slot.slot-index c.args.slots.now c.loop-slot-test.false)
