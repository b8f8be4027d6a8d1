use Rattle.eco_store.proofs.Common.{List, is_some, length, unwrap_or, sym, ap, ◌∙◌, length-set, find, id_cmp, with_held, no_table, all_staying, Id, Value}
use Rattle.eco_store.proofs.LaidRows.{sets_rows}
use Rattle.eco_store.proofs.Needing.{fits_in}
use Rattle.eco_store.proofs.Rowless.{rowless_rewritten}
use Rattle.eco_store.proofs.Values.{held_read, written_store, written_read}
use Rattle.eco_store.proofs.store.Store.set_value.Goals as goal

pub set_value-requires-clause-fits : goal.set_value-requires-clause-fits
set_value-requires-clause-fits c =
    let l = c.self.inside.layout in
    fits_in l.entities l.archetypes c.args.id c.args.value c.self.invariant.laid.covers (rw (← c.self.view_is) at c.requires.fits)

pub invariant_of-self : goal.invariant_of-self
invariant_of-self c =
    let l = c.self.inside.layout in
    let s = l.archetypes in
    let p = c.place_of-place.result in
    let sets = c.set_value.ensures.written in
    record {
      laid = record {
        store =
            written_store l.entities s _ c.args.e p (λ held. with_held held c.args.id c.args.value) c.self.invariant.laid.store c.place_of-place.ensures.own
            (sets_rows s _ p.table _ sets);
        covers = c.set_value.ensures.widths _ c.self.invariant.laid.covers;
        tidy =
            rowless_rewritten s c.set_value.new.self p.table (all_staying l.staying) _ sets
            (ap (λ o. length (unwrap_or o no_table).rows) sets.changed ∙ length-set _ _ _)
            c.place_of-place.ensures.there c.self.invariant.laid.tidy;
      };
      done = c.self.invariant.done;
    }

pub returns : goal.returns
returns c =
    let l = c.self.inside.layout in
    let p = c.place_of-place.result in
    let sets = sets_rows l.archetypes _ p.table _ c.set_value.ensures.written in
    let held = λ (held : List (Id × Value)). with_held held c.args.id c.args.value in
    record {
      written =
          rw (← c.self.view_is) (written_read l.entities l.archetypes _ c.args.e p held c.self.invariant.laid.store c.place_of-place.ensures.own sets);
      had =
          rw (← c.self.view_is)
          (c.set_value.ensures.had
          ∙ sym (ap (λ held. is_some (find id_cmp c.args.id held))
          (held_read l.entities l.archetypes _ c.args.e p held c.self.invariant.laid.store c.place_of-place.ensures.own sets)));
    }
