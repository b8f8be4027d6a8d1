use Rattle.eco_store.proofs.Common.{read, err_says}
use Rattle.eco_archetypes.proofs.Holders.{some_held}
use Rattle.eco_store.proofs.Lent.{lent_tables}
use Rattle.eco_archetypes.proofs.Shows.{shows}
use Rattle.eco_store.proofs.store.Store.tables_by.Goals as goal

pub returns-clause-lent : goal.returns-clause-lent
returns-clause-lent g c =
    let l = c.self.inside.layout in
    rw (← c.self.view_is, c.tables-tables.ensures.same)
    (lent_tables l.entities l.archetypes c.self.invariant.laid.store c.self.invariant.laid.covers
    (rw c.tables-tables.ensures.same at c.rows_have_ids.ensures) c.tables-tables.ensures.kinds)

pub returns-in_err-slots-clause-some : goal.returns-in_err-slots-clause-some
returns-in_err-slots-clause-some g c =
    let s = c.self.inside.layout.archetypes in
    rw (← c.self.view_is)
    (err_says c.from_residual.result
    (some_held (read c.self.inside.layout.entities s) s (g.T.TypeTest.test c.args.test.now)
    (shows c.self.inside.layout.entities s c.self.invariant.laid.store (rw c.tables-tables.ensures.same at c.rows_have_ids.ensures))
    c.in_err-slots.ensures.some))
