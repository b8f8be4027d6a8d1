use Rattle.eco_archetypes.proofs.Common.{true≢false, sym, refl, arith, ◌∙◌, group_at}
use Rattle.eco_archetypes.proofs.Searching.{listed_match, none_first, none_found, none_more, some_found}
use Rattle.eco_archetypes.proofs.archetypes.Archetypes.finds.Goals as goal

pub loop-place-init : goal.loop-place-init
loop-place-init g c = none_first (g.T.TypeTest.test c.args.test.now) c.args.self.now

pub has_passing-requires-clause-listed : goal.has_passing-requires-clause-listed
has_passing-requires-clause-listed g c =
    listed_match c.args.self.now (g.T.TypeTest.test c.args.test.now) c.listed-slots.result.now
    (group_at (g.T.TypeTest.groups c.args.test.now) c.shortest_group-group.result) c.loop-place.place c.pattern.result
    (omega (arith, c.pattern_count-place-end.ensures, c.loop-place-test.true)) c.pattern.ensures c.listed-slots.ensures.listed

pub loop-place-preserved : goal.loop-place-preserved
loop-place-preserved g c =
    none_more c.args.self.now (g.T.TypeTest.test c.args.test.now) c.listed-slots.result.now
    (group_at (g.T.TypeTest.groups c.args.test.now) c.shortest_group-group.result) c.loop-place.place c.pattern.result
    (omega (arith, c.pattern_count-place-end.ensures, c.loop-place-test.true)) c.pattern.ensures c.listed-slots.ensures.listed
    c.loop-place.invariant (sym c.has_passing.ensures ∙ c.if-has_passing.false)

pub returns-then-has_passing : goal.returns-then-has_passing
returns-then-has_passing g c = (
  λ _. some_found c.args.self.now (g.T.TypeTest.test c.args.test.now) c.listed-slots.result.now (sym c.has_passing.ensures ∙ c.if-has_passing.true),
  λ _. refl,
)

pub returns : goal.returns
returns g c = (
  λ h. absurd (true≢false (sym h)),
  none_found (g.T.TypeTest.test c.args.test.now) (g.T.TypeTest.groups c.args.test.now) c.shortest_group-group.result c.loop-place.place c.args.self.now
      c.shortest_group-group.ensures.needed c.shortest_group-group.ensures.within
      (omega (arith, c.loop-place.auto.place-end, c.loop-place-test.false, c.pattern_count-place-end.ensures)) c.loop-place.invariant,
)
