use Rattle.eco_tables.proofs.Common.{◌≡◌, map, refl, ◌∙◌, id_cmp, with_item, kind_of, rows_of, width_among}
use Rattle.eco_tables.proofs.Turning.{bare_wide, shape_bare, turned_table}
use Rattle.eco_tables.proofs.table.Table.gain_bare.Goals as goal

pub invariant_of-self-2 : goal.invariant_of-self-2
invariant_of-self-2 c =
    rw c.in_ok-insert.ensures.ok (shape_bare _ _ _ _ _ c.self.invariant c.args.id (rw (← c.self.view_is) at c.requires))

pub returns-clause-ok : goal.returns-clause-ok
returns-clause-ok c =
    let own = c.self.inside in
    let cs = own.columns.items in
    let lacks = rw (← c.self.view_is) at c.requires in
    let list : c.insert.new.self ≡ with_item id_cmp own.type_list c.args.id = c.in_ok-insert.ensures.ok in
    rw (← c.self.view_is)
    ((λ t. record { ids = list t; widths = map (width_among (map kind_of cs)) (list t); rows = rows_of (list t) cs own.entities.items; room = own.room })
    ∙ turned_table own.type_list cs c.self.invariant.kinds (with_item id_cmp own.type_list c.args.id) cs own.entities.items c.args.id 0 own.room
    (bare_wide own.type_list cs c.self.invariant.kinds c.args.id lacks) (λ k j has. refl))
