use Rattle.eco_frame.proofs.BatchesCommon.{ap, ◌∙◌, list_any, same_pattern}
use Rattle.eco_frame.proofs.Once.{pushed_once, stands}
use Rattle.eco_frame.proofs.closed.add_once.Goals as goal

pub returns-then-stands_in : goal.returns-then-stands_in
returns-then-stands_in c =
    stands c.args.closed.now.items c.args.pattern c.stands_in.result (c.stands_in.ensures ∙ ap (list_any (same_pattern c.args.pattern)) c.deref.ensures.value)
    c.if-stands_in.true

pub returns : goal.returns
returns c =
    pushed_once c.args.closed.now.items c.push.new.self.items c.args.pattern c.stands_in.result
    (c.stands_in.ensures ∙ ap (list_any (same_pattern c.args.pattern)) c.deref.ensures.value) c.if-stands_in.false c.in_ok-push.ensures.items
