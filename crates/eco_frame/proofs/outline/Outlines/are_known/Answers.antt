use Rattle.eco_frame.proofs.BatchesCommon.{◌≡◌, ◌∙◌, length, sym, true≢false, IsTrue, IsKnown}
use Rattle.std.proofs.Common.{arith, rules}
use Rattle.std.proofs.lemmas.Slice.Zip.{AllZip-long}
use Rattle.eco_frame.proofs.Joins.{known_all, known_each, known_more, known_outlines}
use Rattle.eco_frame.proofs.outline.Outlines.are_known.Goals as goal

pub loop-at-preserved : goal.loop-at-preserved
loop-at-preserved g c =
    let long : length c.args.self.now ≡ length c.args.systems.now = search rules in
    let known : IsTrue c.is_known.result = search rules in
    known_more (IsKnown (g.H.Holdings.world c.args.holdings.now)) c.args.systems.now c.args.self.now c.loop-at.at _ c.loop-at-test.true long
    c.loop-at.invariant (c.is_known.ensures.0 known)

pub returns-then-not-is_known-clause-known : goal.returns-then-not-is_known-clause-known
returns-then-not-is_known-clause-known g c = (
  λ t. absurd (true≢false (sym t)),
  λ all. absurd (true≢false (sym (c.is_known.ensures.1 (known_each (IsKnown (g.H.Holdings.world c.args.holdings.now)) c.args.systems.now c.args.self.now
      c.loop-at.at _ c.loop-at-test.true all)) ∙ c.if-not-is_known.true)),
)

pub returns-then-len-systems-clause-known : goal.returns-then-len-systems-clause-known
returns-then-len-systems-clause-known g c = (
  λ t. absurd (true≢false (sym t)),
  λ all.
      let long : length c.args.self.now ≡ length c.args.systems.now = AllZip-long _ _ _ all in
      let no : ⊥ = omega arith in absurd no,
)

pub returns-clause-outlines : goal.returns-clause-outlines
returns-clause-outlines g c = λ _.
    let w = g.H.Holdings.world c.args.holdings.now in
    let long : length c.args.self.now ≡ length c.args.systems.now = search rules in
    known_outlines w c.args.systems.now c.args.self.now
    (known_all (IsKnown w) c.args.systems.now c.args.self.now c.loop-at.at c.loop-at-test.false long c.loop-at.invariant)
