use Rattle.eco_tables.proofs.Common.{with_room}
use Rattle.eco_tables.proofs.Slots.{still, wrote}
use Rattle.eco_tables.proofs.tables.Tables.shrink.Goals as goal

pub table_mut-requires : goal.table_mut-requires
table_mut-requires c = rw c.self.view_is c.requires.there

pub invariant_of-self : goal.invariant_of-self
invariant_of-self c =
    still _ _ _ c.self.invariant c.args.slot _ _ c.table_mut.ensures.value (λ t. with_room t c.args.room) c.shrink.ensures (λ has. has) (λ up. up)

pub returns : goal.returns
returns c = wrote _ _ c.args.slot _ _ c.self.view_is c.table_mut.ensures.value (λ t. with_room t c.args.room) c.shrink.ensures
