use Rattle.eco_frame.proofs.BatchesCommon.{◌∙◌, ap, closed_in, kills_in, slice_get, sym, traits_in, true≢false}
use Rattle.eco_frame.proofs.Joins.{alike, beq_same, same_beq, there_is}
use Rattle.eco_frame.proofs.Same.{another, no_other}
use Rattle.eco_frame.proofs.outline.Outlines.is_at.Goals as goal

pub returns-then-ne : goal.returns-then-ne
returns-then-ne c = (
  λ t. absurd (true≢false (sym t)),
  λ same.
      absurd (another c.closed.result.now c.closed-2.result.now c.ne.result c.ne.ensures c.if-ne.true
      (c.closed.ensures ∙ ap closed_in same ∙ sym c.closed-2.ensures)),
)

pub returns-then-writes_traits : goal.returns-then-writes_traits
returns-then-writes_traits c = (
  λ kills.
      alike (slice_get c.args.self.now c.args.at) (slice_get c.args.other.now c.args.at) (there_is c.args.self.now c.args.at c.requires.own)
      (there_is c.args.other.now c.args.at c.requires.there)
      (sym c.closed.ensures ∙ no_other c.closed.result.now c.closed-2.result.now c.ne.result c.ne.ensures c.if-ne.false ∙ c.closed-2.ensures)
      (sym c.writes_traits.ensures ∙ beq_same _ _ c.if-writes_traits.true ∙ c.writes_traits-2.ensures)
      (sym c.kills.ensures ∙ beq_same _ _ kills ∙ c.kills-then-writes_traits.ensures),
  λ same. same_beq _ _ (c.kills.ensures ∙ ap kills_in same ∙ sym c.kills-then-writes_traits.ensures),
)

pub returns-else-writes_traits : goal.returns-else-writes_traits
returns-else-writes_traits c = (
  λ t. absurd (true≢false (sym t ∙ c.if-writes_traits.false)),
  λ same. same_beq _ _ (c.writes_traits.ensures ∙ ap traits_in same ∙ sym c.writes_traits-2.ensures),
)
