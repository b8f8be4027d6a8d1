use Rattle.eco_archetypes.proofs.Common.{List, ℕ, Option, Id, AreExact, AreThose, type_at, ArePassing}
use Rattle.eco_archetypes.proofs.Cached.{if_some, passing_those}
use Rattle.eco_archetypes.proofs.archetypes.Archetypes.cached.Goals as goal

pub returns-clause-those : goal.returns-clause-those
returns-clause-those g c =
    let s = c.self.inside.tables in
    let test = g.T.TypeTest.test c.args.test.now in
    let q = c.in_ok-number.query.now in
    rw (← c.self.view_is)
    (if_some (λ slots. (types : ℕ → Option (List Id)) → AreExact types c.self.inside.caches.list.items → AreThose types q slots.now)
    (λ slots. ArePassing test s slots.now) c.of_query.result
    (λ slots those. passing_those test s q slots.now (λ ids. c.in_ok-number.ensures ids) (those (type_at s) c.self.invariant.cached))
    c.of_query.ensures.those)
