use Rattle.eco_store.proofs.Common.{Some, [], true, false, ◌≡◌, length, refl, ap, ◌∙◌, sym, is_free_at, read, Place, rows_in, all_staying}
use Rattle.eco_store.proofs.Common.{MakeAlive, Err, OutOfMemory, rules}
use Rattle.eco_store.proofs.StoreChanges.{same_read}
use Rattle.eco_store.proofs.RowCounts.{end_fits}
use Rattle.eco_store.proofs.Laid.{found_laid, found_puts, sought_settled}
use Rattle.eco_store.proofs.LaidRows.{rows_alike}
use Rattle.eco_store.proofs.Needing.{called}
use Rattle.eco_store.proofs.BirthChanges as births
use Rattle.eco_store.proofs.store.Store.make_alive.Goals as goal

-- the handle is taken
pub returns-then-not-is_free_at : goal.returns-then-not-is_free_at
returns-then-not-is_free_at c = record {
  step =
      let w = c.self.inside.layout.entities in
      let s = c.self.inside.layout.archetypes in
      let taken : is_free_at w c.args.e ≡ false = sym c.is_free_at.ensures ∙ c.if-not-is_free_at.true in
      rw (← c.self.view_is) (rw (births.is_free_at-read w s c.args.e ∙ taken) (refl, refl));
}

-- it lives
pub seat-requires-clause-alive : goal.seat-requires-clause-alive
seat-requires-clause-alive c =
    let w = c.self.inside.layout.entities in
    let free : is_free_at w c.args.e ≡ true = sym c.is_free_at.ensures ∙ c.if-not-is_free_at.false in
    births.made_lives w _ c.args.e free (rw free at c.make_alive.ensures).1

pub seat-requires-clause-fits : goal.seat-requires-clause-fits
seat-requires-clause-fits c =
    let l = c.self.inside.layout in
    end_fits l.entities l.archetypes c.in_ok-table.table _ c.rules.ensures c.self.invariant.laid.store
    (ap (λ R. length (R c.in_ok-table.table)) (rows_alike l.archetypes _ c.room_for.ensures.rows))

pub invariant_of-self-2 : goal.invariant_of-self-2
invariant_of-self-2 c =
    let l = c.self.inside.layout in
    let s1 = c.room_for.new.self in
    let s2 = c.seat.new.self.archetypes in
    let e = c.args.e in
    let free : is_free_at l.entities e ≡ true = sym c.is_free_at.ensures ∙ c.if-not-is_free_at.false in
    let at : Place = record { table = c.in_ok-table.table; row = length (rows_in s1 c.in_ok-table.table) } in
    let typed = c.in_ok-table.ensures.typed ∙ ap Some c.empty-type_list.ensures in
    let puts = found_puts l s1 s2 at e [] c.room_for.ensures.rows typed refl c.seat.ensures.row in
    record {
      laid =
          rw c.seat.ensures.staying
          (found_laid l s1 s2 at e [] c.room_for.ensures.rows typed refl c.seat.ensures.row c.seat.new.self.entities
          (rw c.seat.ensures.placed
          (births.made_alive_store l.entities _ _ _ e at c.self.invariant.laid.store puts free (rw free at c.make_alive.ensures).1))
          (c.seat.ensures.covers
          (called c.needs_never_grow.ensures (MakeAlive e) _ c.make_alive.new.self _ (c.make_alive.result, c.make_alive.ensures)
          (c.room_for.ensures.widths c.self.invariant.laid.covers)))
          (c.in_ok-table.ensures.rowless (all_staying l.staying) c.self.invariant.laid.tidy));
      done = rw c.seat.ensures.staying c.self.invariant.done;
    }

pub returns : goal.returns
returns c = record {
  step =
      let l = c.self.inside.layout in
      let s1 = c.room_for.new.self in
      let s2 = c.seat.new.self.archetypes in
      let e = c.args.e in
      let free : is_free_at l.entities e ≡ true = sym c.is_free_at.ensures ∙ c.if-not-is_free_at.false in
      let at : Place = record { table = c.in_ok-table.table; row = length (rows_in s1 c.in_ok-table.table) } in
      let typed = c.in_ok-table.ensures.typed ∙ ap Some c.empty-type_list.ensures in
      let puts = found_puts l s1 s2 at e [] c.room_for.ensures.rows typed refl c.seat.ensures.row in
      rw (← c.self.view_is)
      (rw (births.is_free_at-read l.entities l.archetypes e ∙ free) (
        refl,
        ap (λ v. read v s2) c.seat.ensures.placed
            ∙ births.made_alive_read l.entities _ l.archetypes s2 e at c.self.invariant.laid.store puts free
            (rw free at c.make_alive.ensures).1,
      ));
}

-- no room is had
pub invariant_of-self : goal.invariant_of-self
invariant_of-self c =
    sought_settled c.self.inside.layout _ c.room_for.ensures.rows c.self.invariant c.room_for.ensures.widths c.in_err-table.ensures.rowless

pub returns-in_err-table : goal.returns-in_err-table
returns-in_err-table c = record {
  step =
      let w = c.self.inside.layout.entities in
      let s = c.self.inside.layout.archetypes in
      let free : is_free_at w c.args.e ≡ true = sym c.is_free_at.ensures ∙ c.if-not-is_free_at.false in
      let err : c.from_residual.result ≡ Err OutOfMemory = search rules in
      rw (← c.self.view_is, err)
      (births.is_free_at-read w s c.args.e ∙ free, same_read w s c.room_for.new.self c.room_for.ensures.rows);
}
