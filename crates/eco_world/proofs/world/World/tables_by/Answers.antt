use Rattle.eco_world.proofs.Common.{◌≡◌, ◌∙◌, map, sym, ap, subst, Contains, IsDistinct, Contains-permutation, IsPermutation-map, IsPermutation-sym}
use Rattle.eco_world.proofs.Common.{asked_by, world_with, HasTable, lent, lent_at, listed, listed_of, shown_at, err_says}
use Rattle.std.proofs.Common.{All}
use Rattle.std.proofs.lemmas.Simd.{map-map}
use Rattle.eco_world.proofs.Lending.{all_lend, in_slots}
use Rattle.eco_world.proofs.Tabled.{all_covered, found_covered, found_differ, found_match, found_some, found_there}
use Rattle.eco_world.proofs.Layouts.{covers_moved, layout_around, same_type, sorted_tables, Covers}
use Rattle.eco_world.proofs.world.World.tables_by.Goals as goal

pub tables_in-requires : goal.tables_in-requires
tables_in-requires g c =
    let qs = asked_by c.self.inside.queries.items in
    let found = c.in_ok-found.found in
    subst (All (HasTable found.tables.now)) (sym c.deref.ensures)
    (found_there (world_with c.self.inside.edition c.self.inside.store.entities qs) found.tables.now
    c.in_ok-found.ensures.lent.shown c.in_ok-found.ensures.lent.kinds
    (g.T.TypeTest.test c.args.test.now) found.slots.items c.in_ok-found.ensures.found.listed)

pub returns-clause-all : goal.returns-clause-all
returns-clause-all g c =
    let qs = asked_by c.self.inside.queries.items in
    let slots = c.in_ok-found.found.tables.now in
    let ns = c.in_ok-found.found.slots.items in
    let shown = c.in_ok-found.ensures.lent.shown in
    let kinds = c.in_ok-found.ensures.lent.kinds in
    let old = c.in_ok-tables.tables.items in
    let new = c.sort_by_type.new.tables.items in
    let w = world_with c.self.inside.edition c.self.inside.store.entities qs in
    let passes = g.T.TypeTest.test c.args.test.now in
    let listed_are = rw (← c.self.view_is) at c.in_ok-tables.ensures.lent in
    let all : listed old ≡ map (shown_at slots) ns =
    sym (map-map (λ t. t.0) lent old) ∙ ap (map (λ t. t.0)) (listed_are ∙ ap (map (lent_at w slots)) c.deref.ensures)
    ∙ map-map (λ t. t.0) (lent_at w slots) ns in
    let moved = IsPermutation-map listed_of old new c.sort_by_type.ensures.same in
    rw (← c.self.view_is)
    (layout_around w passes (listed new) _
    (sorted_tables old new c.sort_by_type.ensures.same c.sort_by_type.ensures.ordered
    (subst (IsDistinct same_type) (sym all)
    (found_differ w slots shown kinds passes ns c.in_ok-found.ensures.found.listed c.in_ok-found.ensures.found.distinct)))
    (covers_moved w passes (listed old) (listed new) moved
    (subst (Covers w passes) (sym all) (found_covered w slots shown kinds passes ns c.in_ok-found.ensures.found.listed)))
    (λ t p. found_match w slots shown kinds passes ns c.in_ok-found.ensures.found.listed t
    (subst (λ ts. Contains ts t) all (Contains-permutation (listed new) (listed old) t (IsPermutation-sym (listed old) (listed new) moved) p)))
    (all_covered w slots shown kinds))

pub returns-clause-values : goal.returns-clause-values
returns-clause-values g c =
    let qs = asked_by c.self.inside.queries.items in
    let slots = c.in_ok-found.found.tables.now in
    let ns = c.in_ok-found.found.slots.items in
    let old = c.in_ok-tables.tables.items in
    let w = world_with c.self.inside.edition c.self.inside.store.entities qs in
    let listed_are = rw (← c.self.view_is) at c.in_ok-tables.ensures.lent in
    let all : map lent old ≡ map (lent_at w slots) ns = listed_are ∙ ap (map (lent_at w slots)) c.deref.ensures in
    rw (← c.self.view_is)
    (all_lend w slots c.in_ok-found.ensures.lent.shown c.in_ok-found.ensures.lent.kept c.self.invariant old c.sort_by_type.new.tables.items
    c.sort_by_type.ensures.same (λ x p. in_slots w slots ns x (subst (λ xs. Contains xs x) all p)) c.in_ok-tables.ensures.whole)

pub returns-in_err-tables-clause-some : goal.returns-in_err-tables-clause-some
returns-in_err-tables-clause-some g c =
    let qs = asked_by c.self.inside.queries.items in
    let found = c.in_ok-found.found in
    rw (← c.self.view_is)
    (err_says c.from_residual-in_err-tables.result
    (found_some (world_with c.self.inside.edition c.self.inside.store.entities qs) found.tables.now
    c.in_ok-found.ensures.lent.shown c.in_ok-found.ensures.lent.kinds
    (g.T.TypeTest.test c.args.test.now) found.slots.items c.in_ok-found.ensures.found.listed (rw c.deref.ensures at c.in_err-tables.ensures.some)))
