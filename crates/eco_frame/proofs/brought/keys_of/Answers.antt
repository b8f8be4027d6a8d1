use Rattle.eco_frame.proofs.BatchesCommon.{[], map, ap, ◌∙◌, refl, take_all, pattern_key}
use Rattle.eco_frame.proofs.Orders.{map_more}
use Rattle.eco_frame.proofs.brought.keys_of.Goals as goal

pub loop-pattern-preserved : goal.loop-pattern-preserved
loop-pattern-preserved c =
    map_more pattern_key c.args.patterns.now c.loop-pattern.pattern-index _ _ [] c.loop-pattern.keys.items c.push.new.self.items c.loop-pattern-test.true
    c.loop-pattern.invariant refl c.in_ok-push.ensures.items

pub returns : goal.returns
returns c = c.loop-pattern.invariant ∙ ap (map pattern_key) (take_all c.loop-pattern.pattern-index c.args.patterns.now c.loop-pattern-test.false)
