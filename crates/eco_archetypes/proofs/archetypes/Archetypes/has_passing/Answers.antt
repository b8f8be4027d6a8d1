use Rattle.std.proofs.lemmas.List.Folds.{list_any_at, list_any_more}
use Rattle.eco_archetypes.proofs.Common.{◌||◌, refl, sym, ap, ◌∙◌, list_any, take_all, is_found_in}
use Rattle.eco_archetypes.proofs.archetypes.Archetypes.has_passing.Goals as goal

pub loop-slot-init : goal.loop-slot-init
loop-slot-init g c = refl

pub passes-requires-clause-listed : goal.passes-requires-clause-listed
passes-requires-clause-listed g c = c.requires.listed c.loop-slot.slot-index 0 c.loop-slot-test.true

pub returns-then-passes : goal.returns-then-passes
returns-then-passes g c =
    let found = is_found_in (g.T.TypeTest.test c.args.test.now) c.args.self.now in
    sym (list_any_at found c.args.slots.now c.loop-slot.slot-index 0 c.loop-slot-test.true (sym c.passes.ensures ∙ c.if-passes.true))

pub loop-slot-preserved : goal.loop-slot-preserved
loop-slot-preserved g c =
    let found = is_found_in (g.T.TypeTest.test c.args.test.now) c.args.self.now in
    list_any_more found c.args.slots.now c.loop-slot.slot-index 0 c.loop-slot-test.true
    ∙ (λ k. c.loop-slot.invariant k || (sym c.passes.ensures ∙ c.if-passes.false) k)

pub returns : goal.returns
returns g c =
    let found = is_found_in (g.T.TypeTest.test c.args.test.now) c.args.self.now in
    sym c.loop-slot.invariant ∙ ap (list_any found) (take_all c.loop-slot.slot-index c.args.slots.now c.loop-slot-test.false)
