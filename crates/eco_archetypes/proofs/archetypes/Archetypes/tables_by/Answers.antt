use Rattle.eco_archetypes.proofs.Cached.{answers_all, answers_some}
use Rattle.eco_archetypes.proofs.archetypes.Archetypes.tables_by.Goals as goal

pub returns-in-Some-clause-all : goal.returns-in-Some-clause-all
returns-in-Some-clause-all g c =
    answers_all (g.T.TypeTest.test c.args.test.now) c.args.self.now (λ v. v.items) c.with_rows.result c.in-Some.slots.now
    c.in-Some.ensures.those c.in-Some.ensures.distinct c.with_rows.ensures.all

pub returns-in-Some-clause-some : goal.returns-in-Some-clause-some
returns-in-Some-clause-some g c =
    answers_some (g.T.TypeTest.test c.args.test.now) c.args.self.now c.with_rows.result c.in-Some.slots.now c.in-Some.ensures.those
    c.with_rows.ensures.some
