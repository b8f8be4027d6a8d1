use Rattle.eco_archetypes.proofs.Common.{◌≡◌, true, sym, ap, ◌∙◌, subst, unwrap_or, option_copied, need, id_cmp, has_item, TableState, width_in}
use Rattle.eco_archetypes.proofs.Common.{table_in, no_table, exactly}
use Rattle.eco_archetypes.proofs.NewWidths.{listed_has, width_as, width_new}
use Rattle.eco_archetypes.proofs.archetypes.Archetypes.width_of.Goals as goal

pub unwrap-requires : goal.unwrap-requires
unwrap-requires c =
    let s = c.self.inside.tables in
    let table : table_in s c.in-Some.slot ≡ c.unwrap-table.result.now =
    ap (λ o. unwrap_or o no_table) (sym c.get.ensures ∙ ap option_copied c.unwrap-table.ensures) in
    let has = listed_has s c.in-Some.slot c.args.id (sym (c.self.invariant.matches (exactly c.args.id) c.in-Some.slot) ∙ c.in-Some.ensures.listed) in
    rw c.width.ensures.width (c.ids_have_widths.ensures c.args.id (subst (λ (t : TableState). has_item id_cmp t.ids c.args.id ≡ true) table has.1))

pub returns-in-Some : goal.returns-in-Some
returns-in-Some c =
    let s = c.self.inside.tables in
    let table : table_in s c.in-Some.slot ≡ c.unwrap-table.result.now =
    ap (λ o. unwrap_or o no_table) (sym c.get.ensures ∙ ap option_copied c.unwrap-table.ensures) in
    rw (← c.self.view_is)
    (width_as (need c.args.entities.now) s c.in-Some.slot c.args.id _ c.self.invariant.agreed (rw c.unwrap.ensures at c.width.ensures.few)
    (ap (λ (t : TableState). width_in t c.args.id) table ∙ sym c.width.ensures.width ∙ c.unwrap.ensures))

pub returns-in-None : goal.returns-in-None
returns-in-None c =
    rw (← c.self.view_is)
    (width_new (need c.args.entities.now) c.self.inside.tables c.args.id c.need.result
    (λ n. sym (c.self.invariant.matches (exactly c.args.id) n) ∙ c.in-None.ensures.none n) c.need.ensures.few c.need.ensures.need)
