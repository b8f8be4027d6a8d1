use Rattle.eco_tables.proofs.Common.{◌∷◌, [], new_row, with_row}
use Rattle.eco_tables.proofs.RowIds.{joined_have}
use Rattle.eco_tables.proofs.Slots.{room_some, still, wrote}
use Rattle.eco_tables.proofs.tables.Tables.push_row.Goals as goal

pub table_mut-requires : goal.table_mut-requires
table_mut-requires c = room_some c.self.inside.slots.items c.args.slot (rw (← c.self.view_is) at c.requires)

pub invariant_of-self : goal.invariant_of-self
invariant_of-self c =
    still _ _ _ c.self.invariant c.args.slot _ _ c.table_mut.ensures.value (λ t. with_row t (new_row c.args.entity)) c.push_row.ensures
    (λ has. joined_have c.table_mut.result.now (new_row c.args.entity ∷ []) has) (λ up. up)

pub returns : goal.returns
returns c = wrote _ _ c.args.slot _ _ c.self.view_is c.table_mut.ensures.value (λ t. with_row t (new_row c.args.entity)) c.push_row.ensures
