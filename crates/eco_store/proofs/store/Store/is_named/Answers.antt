use Rattle.eco_store.proofs.Common.{false, sym, ◌∙◌, true≢false}
use Rattle.eco_index.specs.TypeTests.{type_names}
use Rattle.eco_archetypes.proofs.Named.{none_names}
use Rattle.eco_archetypes.proofs.Holders.{held_is}
use Rattle.eco_archetypes.proofs.Shows.{shows}
use Rattle.eco_store.proofs.store.Store.is_named.Goals as goal

pub returns-then-is_named : goal.returns-then-is_named
returns-then-is_named c =
    rw (← c.self.view_is)
    (held_is _ c.self.inside.layout.archetypes (λ ids. type_names ids c.args.entity)
    (shows c.self.inside.layout.entities c.self.inside.layout.archetypes c.self.invariant.laid.store
    (rw c.tables.ensures.same at c.rows_have_ids.ensures)) c.finds.result c.finds.ensures)

pub returns-else-is_named : goal.returns-else-is_named
returns-else-is_named c =
    let slots = c.self.inside.layout.archetypes in
    let none = sym c.is_named.ensures ∙ c.if-is_named.false in
    rw (← c.self.view_is)
    (c.if-is_named.false
    ∙ held_is _ slots (λ ids. type_names ids c.args.entity)
    (shows c.self.inside.layout.entities slots c.self.invariant.laid.store (rw c.tables.ensures.same at c.rows_have_ids.ensures)) false (
      λ h. absurd (true≢false (sym h)),
      λ some. sym (none_names slots c.args.entity none some.0) ∙ some.1,
    ))
