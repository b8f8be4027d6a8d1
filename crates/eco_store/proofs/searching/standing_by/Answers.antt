use Rattle.eco_store.proofs.AnswersCommon.{◌≡◌, map, subst, All, err_says, entities_whose, StandsIn, Standing}
use Rattle.eco_archetypes.proofs.Holders.{some_held, some_listed}
use Rattle.eco_store.proofs.searching.standing_by.Goals as goal

pub standing_in-requires-clause-store : goal.standing_in-requires-clause-store
standing_in-requires-clause-store g c = rw (c.tables.ensures.same, c.archetypes-archetypes.ensures) c.entities.ensures.store

pub returns-clause-all : goal.returns-clause-all
returns-clause-all g c =
    let test = g.T.TypeTest.test c.args.test.now in
    let is = rw (c.tables.ensures.same, c.archetypes-archetypes.ensures, c.deref.ensures) at c.in_ok-list.ensures.all in
    subst (λ v. map (λ (x : Standing). x.entity) c.in_ok-list.list ≡ entities_whose v test) c.entities.ensures.seen
    (is test (rw c.archetypes-archetypes.ensures at c.in_ok-slots.ensures.all))

pub returns-clause-placed : goal.returns-clause-placed
returns-clause-placed g c =
    rw c.archetypes-archetypes.ensures
    (subst (λ v. All (StandsIn v c.args.places.now.slots c.in_ok-slots.slots.items) c.in_ok-list.list) c.entities.ensures.seen
    (rw (c.tables.ensures.same, c.archetypes-archetypes.ensures, c.deref.ensures) at c.in_ok-list.ensures.placed))

pub returns-in_err-slots-clause-some : goal.returns-in_err-slots-clause-some
returns-in_err-slots-clause-some g c =
    err_says c.from_residual.result
    (some_held c.args.places.now.entities c.args.places.now.slots (g.T.TypeTest.test c.args.test.now) c.are_shown.ensures
    (rw c.archetypes-archetypes.ensures at c.in_err-slots.ensures.some))

pub returns-in_err-list-clause-some : goal.returns-in_err-list-clause-some
returns-in_err-list-clause-some g c =
    let all = rw c.archetypes-archetypes.ensures at c.in_ok-slots.ensures.all in
    err_says c.from_residual-in_err-list.result
    (some_listed c.args.places.now.entities c.args.places.now.slots (g.T.TypeTest.test c.args.test.now) c.are_shown.ensures c.in_ok-slots.slots.items
    all.listed (rw c.deref.ensures at c.in_err-list.ensures.some))
