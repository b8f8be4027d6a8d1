use Rattle.eco_archetypes.proofs.Common.{◌≡◌, Some, false, option_map, unwrap_or, ap, sym, subst, ◌∙◌, option_copied, same_Some, id_cmp}
use Rattle.eco_archetypes.proofs.Common.{without_item, TableState, table_in, no_table, Turns, is_own, lists_of, type_at}
use Rattle.eco_archetypes.proofs.ArchetypeLemmas.{type_there}
use Rattle.eco_archetypes.proofs.Turnings.{gone_lost, index_lost, lost_agreed, lost_widths, wide_lost}
use Rattle.eco_archetypes.proofs.archetypes.turning.lose.Goals as goal

pub returns-clause-index : goal.returns-clause-index
returns-clause-index c =
    let s = c.args.tables.now in
    let s1 = c.lose.new.self in
    let n = c.args.slot in
    let i = c.args.id in
    let ids = (table_in s n).ids in
    let l = lists_of c.args.by_id.now.slots in
    let l1 = lists_of c.leave.new.self.slots in
    let has : type_at s1 n ≡ Some (without_item id_cmp ids i) = ap (option_map (λ (t : TableState). t.ids)) c.lose.ensures.changed in
    let left : c.type_in.result.now ≡ without_item id_cmp ids i = same_Some _ _ (sym c.type_in.ensures.typed ∙ has) in
    index_lost s s1 l l1 n i ids c.requires.index (type_there s n c.requires.there) c.lose.ensures.others c.requires.has has
    (subst (λ xs. Turns false (is_own i xs) l l1 n) left c.leave.ensures)

pub returns-clause-agreed : goal.returns-clause-agreed
returns-clause-agreed c =
    let s = c.args.tables.now in
    let t = table_in s c.args.slot in
    let table : t ≡ c.unwrap.result.now = ap (λ o. unwrap_or o no_table) (sym c.get.ensures ∙ ap option_copied c.unwrap.ensures) in
    lost_agreed s c.lose.new.self c.args.slot _ c.args.id 0 c.lose.ensures (wide_lost t c.args.id (rw table c.ids_have_widths.ensures))
    (gone_lost t.ids c.args.id) c.requires.agreed

pub returns-clause-widths : goal.returns-clause-widths
returns-clause-widths c =
    let s = c.args.tables.now in
    let t = table_in s c.args.slot in
    let table : t ≡ c.unwrap.result.now = ap (λ o. unwrap_or o no_table) (sym c.get.ensures ∙ ap option_copied c.unwrap.ensures) in
    lost_widths s c.lose.new.self c.args.slot _ c.args.id 0 c.lose.ensures (wide_lost t c.args.id (rw table c.ids_have_widths.ensures))
    (gone_lost t.ids c.args.id)
