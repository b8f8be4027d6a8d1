use Rattle.eco_store.proofs.Common.{refl, sym, ap, ◌∙◌, subst, length, table_in, AllHaveIds, all_staying, IsStore, read, with_places}
use Rattle.eco_store.proofs.Needing.{moved_covers}
use Rattle.eco_store.proofs.Rowless.{named_stays, rowless_poured}
use Rattle.eco_store.proofs.WholeMoves.{whole_store, whole_pours, whole_read}
use Rattle.eco_store.proofs.layout.Layout.move_rows.Goals as goal

pub returns-clause-empties : goal.returns-clause-empties
returns-clause-empties c =
    let l = c.args.self.now in
    let s = l.archetypes in
    let s1 = c.move_rows.new.self in
    let t = c.args.transfer in
    let places = c.place_rows.ensures
    ∙ ap (λ s. with_places l.entities t (length (table_in s t.to).rows) (length (table_in s t.from).rows)) c.tables-tables.ensures.same in
    let pours =
    whole_pours l.entities s s1 t c.requires.laid.store c.requires.apart c.move_rows.ensures.moves c.requires.source c.requires.target in
    let stay = named_stays l.staying t c.requires.named in
    record {
      laid = record {
        store =
            subst (λ w. IsStore w s1) (sym places)
            (whole_store l.entities s s1 t c.requires.laid.store c.requires.apart c.move_rows.ensures.moves);
        covers = c.move_rows.ensures.widths _ (moved_covers l.entities _ s t _ _ c.place_rows.ensures c.requires.laid.covers);
        tidy = rowless_poured s s1 t.from t.to pours (all_staying l.staying) stay.0 stay.1 c.requires.laid.tidy;
      };
      staying = refl;
      pours = pours;
    }

pub returns-clause-seen : goal.returns-clause-seen
returns-clause-seen c =
    let l = c.args.self.now in
    let s = l.archetypes in
    let t = c.args.transfer in
    let places = c.place_rows.ensures
    ∙ ap (λ s. with_places l.entities t (length (table_in s t.to).rows) (length (table_in s t.from).rows)) c.tables-tables.ensures.same in
    ap (λ w. read w c.move_rows.new.self) places
    ∙ whole_read l.entities s c.move_rows.new.self t c.requires.laid.store c.requires.apart c.move_rows.ensures.moves
    (subst AllHaveIds c.tables-tables.ensures.same c.rows_have_ids.ensures) c.tables-tables.ensures.kinds c.requires.source
