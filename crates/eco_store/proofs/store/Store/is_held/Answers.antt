use Rattle.eco_store.proofs.Common.{list_any, pattern_matches}
use Rattle.eco_archetypes.proofs.Holders.{held_is}
use Rattle.eco_archetypes.proofs.Shows.{shows}
use Rattle.eco_store.proofs.store.Store.is_held.Goals as goal

pub returns : goal.returns
returns c =
    rw (← c.self.view_is)
    (held_is _ c.self.inside.layout.archetypes (list_any (pattern_matches c.args.pattern))
    (shows c.self.inside.layout.entities c.self.inside.layout.archetypes c.self.invariant.laid.store
    (rw c.tables.ensures.same at c.rows_have_ids.ensures)) c.finds.result c.finds.ensures)
