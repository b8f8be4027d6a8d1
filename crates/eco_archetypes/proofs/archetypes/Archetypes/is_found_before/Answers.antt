use Rattle.eco_archetypes.proofs.Common.{arith, sym, ◌∙◌, group_at, type_at}
use Rattle.eco_archetypes.proofs.Searching.{has_before, not_before}
use Rattle.eco_archetypes.proofs.archetypes.Archetypes.is_found_before.Goals as goal

pub returns-then-is_listed : goal.returns-then-is_listed
returns-then-is_listed g c =
    sym (has_before (group_at (g.T.TypeTest.groups c.args.test.now) c.args.group) c.args.place c.loop-before.before c.pattern.result
    (type_at c.args.self.now c.args.slot) c.loop-before-test.true c.pattern.ensures (sym c.is_listed.ensures ∙ c.if-is_listed.true))

pub loop-before-preserved : goal.loop-before-preserved
loop-before-preserved g c =
    not_before (group_at (g.T.TypeTest.groups c.args.test.now) c.args.group) c.loop-before.before c.pattern.result
    (type_at c.args.self.now c.args.slot) (omega (arith, c.requires.1, c.loop-before-test.true)) c.pattern.ensures c.loop-before.invariant
    (sym c.is_listed.ensures ∙ c.if-is_listed.false)
