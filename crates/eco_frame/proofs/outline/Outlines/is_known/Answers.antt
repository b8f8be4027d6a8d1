use Rattle.eco_frame.proofs.BatchesCommon.{◌↔◌, ◌&&◌, slice_get, sym, ◌∙◌, subst, true≢false, IsKnown, IsTrue}
use Rattle.std.proofs.Common.{rules, IfSome}
use Rattle.std.specs.Bool.{beq}
use Rattle.eco_frame.proofs.Joins.{known_by, there_is, unknown_by}
use Rattle.eco_frame.proofs.outline.Outlines.is_known.Goals as goal

pub returns-then-not-is_closed : goal.returns-then-not-is_closed
returns-then-not-is_closed g c = (
  λ t. absurd (true≢false (sym t)),
  λ known.
      absurd (unknown_by (g.H.Holdings.world c.args.holdings.now) c.args.system.now _ (there_is c.args.self.now c.args.at c.requires)
      c.closed-closed.result.now c.closed-closed.ensures (λ few. true≢false (sym (c.is_closed.ensures.1 few) ∙ c.if-not-is_closed.true)) known),
)

pub returns-then-writes_traits-traits : goal.returns-then-writes_traits-traits
returns-then-writes_traits-traits g c =
    let closed : IsTrue c.is_closed.result = search rules in
    subst (λ b. IsTrue (b && beq c.kills.result c.args.system.now.kills)
    ↔ IfSome (slice_get c.args.self.now c.args.at) (IsKnown (g.H.Holdings.world c.args.holdings.now) c.args.system.now)) c.if-writes_traits-traits.true
    (known_by (g.H.Holdings.world c.args.holdings.now) c.args.system.now c.edition.result c.edition.ensures _
    (there_is c.args.self.now c.args.at c.requires) c.closed-closed.result.now c.closed-closed.ensures
    (c.is_closed.ensures.0 closed) c.writes_traits.result c.writes_some_trait-traits.result c.kills.result
    c.writes_traits.ensures c.writes_some_trait-traits.ensures c.kills.ensures)
