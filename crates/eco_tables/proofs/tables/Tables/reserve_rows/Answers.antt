use Rattle.eco_tables.proofs.Common.{ap, on_err, with_room}
use Rattle.eco_tables.proofs.Slots.{new_is, own_is, roomed, still}
use Rattle.eco_tables.proofs.tables.Tables.reserve_rows.Goals as goal

pub table_mut-requires : goal.table_mut-requires
table_mut-requires c = rw c.self.view_is c.requires

pub invariant_of-self : goal.invariant_of-self
invariant_of-self c =
    let room = c.reserve.new.self.room in
    still _ _ _ c.self.invariant c.args.slot _ _ c.table_mut.ensures.value (λ t. with_room t room) c.reserve.ensures.same (λ has. has) (λ up. up)

pub returns : goal.returns
returns c =
    let own = own_is _ _ c.args.slot _ c.self.view_is c.table_mut.ensures.value in
    let new = new_is _ _ c.args.slot _ c.reserve.new.self c.self.view_is c.table_mut.ensures.value in
    record {
      sets = roomed _ _ c.args.slot _ _ c.self.view_is c.table_mut.ensures.value c.reserve.ensures.same;
      kept = rw (← own, new) c.reserve.ensures.kept;
      room = rw new c.reserve.ensures.room;
      err = rw (← own, new) (on_err c.reserve.result (ap (λ t. t.room)) c.reserve.ensures.err);
      ready = rw (← own) c.reserve.ensures.ready;
    }
