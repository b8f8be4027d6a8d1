use Rattle.eco_tables.proofs.Common.{Some, None, is_some, if◌then◌else◌, ap, ◌∙◌, kind_of, width_among, map}
use Rattle.eco_tables.proofs.Widths.{width-each}
use Rattle.eco_tables.proofs.table.Table.ids_have_widths.Goals as goal

pub returns : goal.returns
returns c =
    rw (← c.self.view_is) (λ i has.
    let kinds = map kind_of c.self.inside.columns.items in
    ap is_some (width-each c.self.inside.type_list kinds i ∙ ap (λ b. if b then Some (width_among kinds i) else None) has))
