use Rattle.eco_store.proofs.Common.{Ok, None, [], refl, ap, ◌∙◌, with_new, newcomer, Create, Place, all_staying, StoreState}
use Rattle.eco_store.proofs.RowCounts.{end_fits}
use Rattle.eco_store.proofs.BirthChanges.{creates_unnamed, placed_new, still_created}
use Rattle.eco_store.proofs.Laid.{found_laid, found_puts}
use Rattle.eco_store.proofs.Needing.{called, placed_covers}
use Rattle.eco_store.proofs.Rowless.{rowless_beside}
use Rattle.eco_store.proofs.store.Store.create_in_room.Goals as goal

pub create_in_room-requires : goal.create_in_room-requires
create_in_room-requires c =
    end_fits c.self.inside.layout.entities c.self.inside.layout.archetypes c.in_ok-table.table _ c.rules.ensures c.self.invariant.laid.store
    c.in_ok-table.ensures.row

pub invariant_of-self-2 : goal.invariant_of-self-2
invariant_of-self-2 c =
    let l = c.self.inside.layout in
    let w = l.entities in
    let s = l.archetypes in
    let s1 = c.push_row.new.self in
    let e = c.in_ok-entity.entity in
    let at : Place = record { table = c.in_ok-table.table; row = c.in_ok-table.row } in
    let fresh = newcomer None None in
    let w1 = with_new w e fresh in
    let made = creates_unnamed w e None c.in_ok-entity.ensures.next in
    let is = c.in_ok-entity.ensures.some ∙ placed_new w e fresh at c.in_ok-entity.ensures.next in
    let puts = found_puts l s s1 at e [] (λ n k. refl) c.in_ok-table.ensures.typed c.in_ok-table.ensures.row c.push_row.ensures.row in
    record {
      laid =
          found_laid l s s1 at e [] (λ n k. refl) c.in_ok-table.ensures.typed c.in_ok-table.ensures.row c.push_row.ensures.row c.create_in_room.new.self
          (still_created w w1 s s1 None None [] _ refl e made at _ is c.self.invariant.laid.store puts).0
          (placed_covers c.needs_never_grow.ensures w1 _ s1 e at is
          (called c.needs_never_grow.ensures (Create None None) w w1 s1 (Ok e, made)
          (c.push_row.ensures.widths _ c.self.invariant.laid.covers)))
          (rowless_beside s at.table (all_staying l.staying) c.self.invariant.laid.tidy);
      done = c.self.invariant.done;
    }

pub returns-clause-step : goal.returns-clause-step
returns-clause-step c =
    let l = c.self.inside.layout in
    let w = l.entities in
    let s = l.archetypes in
    let s1 = c.push_row.new.self in
    let e = c.in_ok-entity.entity in
    let at : Place = record { table = c.in_ok-table.table; row = c.in_ok-table.row } in
    let fresh = newcomer None None in
    let made = creates_unnamed w e None c.in_ok-entity.ensures.next in
    let is = c.in_ok-entity.ensures.some ∙ placed_new w e fresh at c.in_ok-entity.ensures.next in
    let puts = found_puts l s s1 at e [] (λ n k. refl) c.in_ok-table.ensures.typed c.in_ok-table.ensures.row c.push_row.ensures.row in
    (still_created w (with_new w e fresh) s s1 None None [] _ (ap (λ (x : StoreState). x.entities) c.self.view_is) e made at _ is
    c.self.invariant.laid.store puts).1
