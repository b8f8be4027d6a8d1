use Rattle.eco_store.proofs.Common.{sym, subst, ap, unwrap_or, no_table, IsSome, ◌∙◌, slot_of}
use Rattle.eco_store.proofs.Lent.{kept_there, lent_tables}
use Rattle.eco_archetypes.proofs.Shows.{own_there, stands_there}
use Rattle.eco_store.proofs.store.Store.stand.Goals as goal

pub table-requires : goal.table-requires
table-requires c =
    subst (λ s. IsSome (slot_of s c.place_of-place.result.table)) (sym c.tables-tables.ensures.same) c.place_of-place.ensures.there

pub returns : goal.returns
returns c =
    let l = c.self.inside.layout in
    let p = c.place_of-place.result in
    let t = c.table.result.now in
    let own = c.place_of-place.ensures.own in
    let slot = sym (ap (λ s. slot_of s p.table) c.tables-tables.ensures.same) ∙ c.table.ensures in
    record {
      stands = rw (← c.self.view_is) (stands_there l.entities l.archetypes c.args.e p t c.self.invariant.laid.store own slot);
      own = own_there l.entities l.archetypes c.args.e p t c.self.invariant.laid.store own slot;
      listed = (
        l.archetypes,
        p.table,
        rw (← c.self.view_is)
            (lent_tables l.entities l.archetypes c.self.invariant.laid.store c.self.invariant.laid.covers
            (rw c.tables-tables.ensures.same at c.rows_have_ids.ensures) c.tables-tables.ensures.kinds),
        ap (λ o. unwrap_or o no_table) slot,
      );
      kept = rw (← c.self.view_is) (kept_there l.entities l.archetypes p.table t c.self.invariant.laid.covers slot);
    }
