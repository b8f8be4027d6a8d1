use Rattle.eco_store.proofs.Lent.{lent_tables}
use Rattle.eco_store.proofs.store.Store.archetypes.Goals as goal

pub returns : goal.returns
returns c =
    let l = c.self.inside.layout in
    rw (← c.self.view_is)
    (lent_tables l.entities l.archetypes c.self.invariant.laid.store c.self.invariant.laid.covers
    (rw c.tables.ensures.same at c.rows_have_ids.ensures) c.tables.ensures.kinds)
