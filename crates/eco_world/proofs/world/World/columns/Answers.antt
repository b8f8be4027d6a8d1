use Rattle.eco_world.proofs.Common.{◌≡◌, ◌∙◌, ℕ, All, arity, asked_by, is_some, list_any, map, nat_eq, not, sym, ap, subst, true, world_with}
use Rattle.eco_archetypes.specs.Archetypes.{type_at, type_matches}
use Rattle.eco_query.specs.Queries.{exactly}
use Rattle.eco_world.proofs.Columned.{keep_columns, lists_columns, where_data}
use Rattle.eco_world.specs.Columns.{column_at, KeepsColumn, ListsColumns}
use Rattle.eco_world.proofs.world.World.columns.Goals as goal

pub of-requires-2 : goal.of-requires-2
of-requires-2 c =
    let w = world_with c.self.inside.edition c.self.inside.store.entities (asked_by c.self.inside.queries.items) in
    let slots = c.archetypes-archetypes.result.now in
    let i = c.args.id in
    let ns = c.listed.result.now in
    let fields : is_some (arity w i) ≡ true =
    rw (← c.self.view_is) at (ap is_some (sym c.arity.ensures) ∙ c.is_none.ensures ∙ ap not c.if-is_none.false) in
    let listed : (n : ℕ) → list_any (nat_eq n) ns ≡ type_matches (type_at slots n) (exactly i) =
    λ n. c.listed.ensures.listed n ∙ ap (type_matches (type_at slots n)) c.exactly.ensures in
    subst (λ s. All (KeepsColumn s i) ns) (sym c.tables-tables.ensures.same)
    (keep_columns w i slots c.archetypes-archetypes.ensures ns listed c.self.invariant fields)

pub returns-clause-data : goal.returns-clause-data
returns-clause-data c =
    let w = world_with c.self.inside.edition c.self.inside.store.entities (asked_by c.self.inside.queries.items) in
    let slots = c.archetypes-archetypes.result.now in
    let i = c.args.id in
    let ns = c.listed.result.now in
    let listed : (n : ℕ) → list_any (nat_eq n) ns ≡ type_matches (type_at slots n) (exactly i) =
    λ n. c.listed.ensures.listed n ∙ ap (type_matches (type_at slots n)) c.exactly.ensures in
    let same : map (column_at slots i) ns ≡ c.of-2.result =
    ap (λ s. map (column_at s i) ns) (sym c.tables-tables.ensures.same) ∙ sym c.of-2.ensures in
    rw (← c.self.view_is)
    (where_data (arity w i) (ListsColumns w i c.of-2.result)
    (subst (ListsColumns w i) same (lists_columns w i slots c.archetypes-archetypes.ensures ns listed c.listed.ensures.distinct)))
