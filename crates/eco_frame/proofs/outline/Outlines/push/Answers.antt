use Rattle.eco_frame.proofs.BatchesCommon.{arith}
use Rattle.eco_frame.proofs.Parts.{pushed}
use Rattle.eco_frame.proofs.outline.Outlines.push.Goals as goal

pub returns : goal.returns
returns c =
    rw (← c.self.view_is, ← c.writes_some_trait.ensures)
    (pushed c.self.inside.closed.items c.args.closed.now c.extend_from_slice.new.self.items c.self.inside.list.items c.push.new.self.items _
    c.in_ok-extend_from_slice.ensures.items c.in_ok-push.ensures.items c.self.invariant
    (omega (arith, c.len-start.ensures, c.self.inside.closed.ok.0)) (omega (arith, c.len.ensures, c.extend_from_slice.new.self.ok.0)))
