use Rattle.eco_store.proofs.Common.{length, refl, sym, ap, option_copied, given_name, newcomer, Create, Place, rows_in, all_staying, StoreState}
use Rattle.eco_store.proofs.BirthChanges.{created_alive, still_created, still_refused}
use Rattle.eco_store.proofs.Laid.{found_laid, found_puts, seen_alike, sought_settled, still_settled}
use Rattle.eco_store.proofs.LaidRows.{rows_alike}
use Rattle.eco_store.proofs.Needing.{called}
use Rattle.eco_store.proofs.Newborn.{refuses}
use Rattle.eco_store.proofs.RowCounts.{end_fits}
use Rattle.eco_store.proofs.StoreChanges.{same_store}
use Rattle.eco_store.proofs.store.Store.create.Goals as goal

-- nobody can be made next
pub returns-in_default : goal.returns-in_default
returns-in_default c = record {
  step =
      let l = c.self.inside.layout in
      let view = ap (λ (x : StoreState). x.entities) c.self.view_is in
      let name = option_copied c.args.name in
      let why = c.refusal.result in
      (still_refused l.entities l.entities l.archetypes l.archetypes name c.args.arity c.args.type_list.now _ view (λ n k. refl) why
      (refuses given_name l.entities (newcomer name c.args.arity) why c.refusal.ensures)).1 _ (sym view);
}

-- no room is had
pub invariant_of-self : goal.invariant_of-self
invariant_of-self c =
    sought_settled c.self.inside.layout _ c.room_for.ensures.rows c.self.invariant c.room_for.ensures.widths c.in_default-room_for.ensures.rowless

pub returns-in_default-room_for : goal.returns-in_default-room_for
returns-in_default-room_for c = record {
  step =
      let l = c.self.inside.layout in
      let view = ap (λ (x : StoreState). x.entities) c.self.view_is in
      let name = option_copied c.args.name in
      let why = c.refusal-in_default-room_for.result in
      (still_refused l.entities l.entities l.archetypes _ name c.args.arity c.args.type_list.now _ view c.room_for.ensures.rows why
      (refuses given_name l.entities (newcomer name c.args.arity) why c.refusal-in_default-room_for.ensures)).1 _ refl;
}

-- the entity is made
pub seat-requires-clause-alive : goal.seat-requires-clause-alive
seat-requires-clause-alive c =
    let l = c.self.inside.layout in
    created_alive l.entities c.create_next.new.self l.archetypes l.archetypes (option_copied c.args.name) c.args.arity c.args.type_list.now _ refl
    c.in-Ok-create_next.created c.in-Ok-create_next.ensures

pub seat-requires-clause-fits : goal.seat-requires-clause-fits
seat-requires-clause-fits c =
    let l = c.self.inside.layout in
    end_fits l.entities l.archetypes c.in-Ok.table _ c.rules.ensures c.self.invariant.laid.store
    (ap (λ R. length (R c.in-Ok.table)) (rows_alike l.archetypes _ c.room_for.ensures.rows))

pub invariant_of-self-in-Ok-create_next : goal.invariant_of-self-in-Ok-create_next
invariant_of-self-in-Ok-create_next c =
    let l = c.self.inside.layout in
    let s1 = c.room_for.new.self in
    let s2 = c.seat.new.self.archetypes in
    let name = option_copied c.args.name in
    let ids = c.args.type_list.now in
    let e = c.in-Ok-create_next.created in
    let at : Place = record { table = c.in-Ok.table; row = length (rows_in s1 c.in-Ok.table) } in
    let puts = found_puts l s1 s2 at e ids c.room_for.ensures.rows c.in-Ok.ensures.typed refl c.seat.ensures.row in
    record {
      laid =
          rw c.seat.ensures.staying
          (found_laid l s1 s2 at e ids c.room_for.ensures.rows c.in-Ok.ensures.typed refl c.seat.ensures.row c.seat.new.self.entities
          (still_created l.entities c.create_next.new.self l.archetypes s2 name c.args.arity ids _ refl e c.in-Ok-create_next.ensures at _
          c.seat.ensures.placed c.self.invariant.laid.store puts).0
          (c.seat.ensures.covers
          (called c.needs_never_grow.ensures (Create name c.args.arity) _ c.create_next.new.self _ (c.create_next.result, c.create_next.ensures)
          (c.room_for.ensures.widths c.self.invariant.laid.covers)))
          (c.in-Ok.ensures.rowless (all_staying l.staying) c.self.invariant.laid.tidy));
      done = rw c.seat.ensures.staying c.self.invariant.done;
    }

pub returns-in-Ok-create_next : goal.returns-in-Ok-create_next
returns-in-Ok-create_next c = record {
  step =
      let l = c.self.inside.layout in
      let view = ap (λ (x : StoreState). x.entities) c.self.view_is in
      let s1 = c.room_for.new.self in
      let s2 = c.seat.new.self.archetypes in
      let ids = c.args.type_list.now in
      let e = c.in-Ok-create_next.created in
      let at : Place = record { table = c.in-Ok.table; row = length (rows_in s1 c.in-Ok.table) } in
      let puts = found_puts l s1 s2 at e ids c.room_for.ensures.rows c.in-Ok.ensures.typed refl c.seat.ensures.row in
      (still_created l.entities c.create_next.new.self l.archetypes s2 (option_copied c.args.name) c.args.arity ids _ view e
      c.in-Ok-create_next.ensures at _ c.seat.ensures.placed c.self.invariant.laid.store puts).1;
}

-- the entity is refused, and its room waits for others
pub release-requires : goal.release-requires
release-requires c =
    let l = c.self.inside.layout in
    let name = option_copied c.args.name in
    let unmade =
    still_refused l.entities c.create_next.new.self l.archetypes _ name c.args.arity c.args.type_list.now _ refl c.room_for.ensures.rows
    c.in-Err.refused c.in-Err.ensures in
    record {
      store = rw unmade.0 (same_store l.entities l.archetypes _ c.room_for.ensures.rows c.self.invariant.laid.store);
      covers =
          called c.needs_never_grow.ensures (Create name c.args.arity) _ c.create_next.new.self _ (c.create_next.result, c.create_next.ensures)
          (c.room_for.ensures.widths c.self.invariant.laid.covers);
      tidy = c.in-Ok.ensures.rowless (all_staying l.staying) c.self.invariant.laid.tidy;
    }

pub invariant_of-self-in-Err : goal.invariant_of-self-in-Err
invariant_of-self-in-Err c =
    still_settled c.self.inside.layout c.release.new.self c.release.ensures.staying c.self.invariant c.release.ensures.laid

pub returns-in-Err : goal.returns-in-Err
returns-in-Err c = record {
  step =
      let l = c.self.inside.layout in
      let view = ap (λ (x : StoreState). x.entities) c.self.view_is in
      let s1 = c.room_for.new.self in
      (still_refused l.entities c.create_next.new.self l.archetypes s1 (option_copied c.args.name) c.args.arity c.args.type_list.now _ view
      c.room_for.ensures.rows c.in-Err.refused c.in-Err.ensures).1 _
      (seen_alike c.create_next.new.self s1 c.release.new.self c.release.ensures.entities c.release.ensures.rows);
}
