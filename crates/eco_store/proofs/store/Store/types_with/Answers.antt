use Rattle.eco_store.proofs.Common.{◌≢◌, ◌↔◌, sym, subst, pattern_matches, list_any, AllPairs, Contains, IfOk-weaker, IsTypeBy, on_err}
use Rattle.eco_archetypes.proofs.Holders.{some_listed}
use Rattle.eco_store.proofs.FoundTypes.{tables_there, types_apart, types_listed}
use Rattle.eco_store.proofs.store.Store.types_with.Goals as goal

pub types_in-requires : goal.types_in-requires
types_in-requires c =
    let found = c.in_ok-found.found in
    rw c.deref.ensures
    (tables_there c.args.self.now.entities found.tables.now (list_any (pattern_matches c.args.pattern)) found.slots.items c.in_ok-found.ensures.lent.shown
    c.in_ok-found.ensures.found.listed)

pub returns-clause-listed : goal.returns-clause-listed
returns-clause-listed c =
    let found = c.in_ok-found.found in
    let w = c.args.self.now.entities in
    let test = list_any (pattern_matches c.args.pattern) in
    IfOk-weaker c.types_in.result _ _
    (λ types is ids. subst (λ xs. Contains xs ids ↔ IsTypeBy w test ids) (sym is)
    (types_listed w found.tables.now test found.slots.items c.in_ok-found.ensures.lent.shown c.in_ok-found.ensures.found.listed ids))
    (rw c.deref.ensures at c.types_in.ensures.all)

pub returns-clause-distinct : goal.returns-clause-distinct
returns-clause-distinct c =
    let found = c.in_ok-found.found in
    let test = list_any (pattern_matches c.args.pattern) in
    IfOk-weaker c.types_in.result _ _
    (λ types is. subst (AllPairs (λ one other. one ≢ other)) (sym is)
    (types_apart c.args.self.now.entities found.tables.now test found.slots.items c.in_ok-found.ensures.lent.shown c.in_ok-found.ensures.found.listed
    c.in_ok-found.ensures.lent.kinds c.in_ok-found.ensures.found.distinct))
    (rw c.deref.ensures at c.types_in.ensures.all)

pub returns-clause-some : goal.returns-clause-some
returns-clause-some c =
    let found = c.in_ok-found.found in
    on_err c.types_in.result
    (some_listed c.args.self.now.entities found.tables.now (list_any (pattern_matches c.args.pattern)) c.in_ok-found.ensures.lent.shown found.slots.items
    c.in_ok-found.ensures.found.listed)
    (rw c.deref.ensures at c.types_in.ensures.some)
