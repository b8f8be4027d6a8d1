use Rattle.eco_frame.proofs.BatchesCommon.{◌≡◌, ◌∙◌, ap, arith, length, slice_get, sym, true≢false, IsTrue}
use Rattle.std.proofs.Common.{rules}
use Rattle.eco_frame.proofs.Joins.{same_more}
use Rattle.eco_frame.proofs.outline.Outlines.is.Goals as goal

pub returns-then-not-is_at : goal.returns-then-not-is_at
returns-then-not-is_at c = (
  λ t. absurd (true≢false (sym t)),
  λ same. absurd (true≢false (sym (c.is_at.ensures.1 (ap (λ os. slice_get os c.loop-at.at) same)) ∙ c.if-not-is_at.true)),
)

pub loop-at-preserved : goal.loop-at-preserved
loop-at-preserved c =
    let long : length c.args.self.now ≡ length c.args.other.now = search rules in
    let same : IsTrue c.is_at.result = search rules in
    same_more c.args.self.now c.args.other.now c.loop-at.at (omega arith) (omega arith) c.loop-at.invariant (c.is_at.ensures.0 same)
