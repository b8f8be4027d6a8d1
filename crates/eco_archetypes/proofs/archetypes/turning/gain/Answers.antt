use Rattle.eco_archetypes.proofs.Common.{◌≡◌, false, option_map, unwrap_or, ap, sym, subst, ◌∙◌, option_copied, same_Some, TableState, table_in}
use Rattle.eco_archetypes.proofs.Common.{no_table, Turns, is_own, lists_of, SameSlots}
use Rattle.eco_archetypes.proofs.ArchetypeLemmas.{type_there}
use Rattle.eco_archetypes.proofs.Turnings.{agreed_slots, covers_slots, gained_agreed, gained_covers, index_back, index_gained, kept_slots, wide_gained}
use Rattle.eco_archetypes.proofs.archetypes.turning.gain.Goals as goal

pub returns-in-Err-clause-index : goal.returns-in-Err-clause-index
returns-in-Err-clause-index c =
    let s = c.args.tables.now in
    let s1 = c.gain.new.self in
    let n = c.args.slot in
    let ids = (table_in s n).ids in
    let l1 = lists_of c.join.new.self.slots in
    let l2 = lists_of c.leave.new.self.slots in
    let had = type_there s n c.requires.there in
    let same : SameSlots s s1 = kept_slots s s1 n c.in-Err.ensures.err in
    let own : c.type_in.result.now ≡ ids =
    same_Some _ _ (sym c.type_in.ensures.typed ∙ ap (option_map (λ (t : TableState). t.ids)) (same n) ∙ had) in
    index_back s s1 (lists_of c.args.by_id.now.slots) l1 l2 n c.args.id ids c.requires.index had same c.in_ok-join.ensures.ok
    (subst (λ xs. Turns false (is_own c.args.id xs) l1 l2 n) own c.leave.ensures)

pub returns-clause-index : goal.returns-clause-index
returns-clause-index c =
    let s = c.args.tables.now in
    let n = c.args.slot in
    index_gained s c.gain.new.self (lists_of c.args.by_id.now.slots) (lists_of c.join.new.self.slots) n c.args.id (table_in s n).ids c.requires.index
    (type_there s n c.requires.there) c.in_default.ensures.ok.others (ap (option_map (λ (t : TableState). t.ids)) c.in_default.ensures.ok.changed)
    c.in_ok-join.ensures.ok

pub returns-in-Err-clause-agreed : goal.returns-in-Err-clause-agreed
returns-in-Err-clause-agreed c =
    agreed_slots c.args.tables.now c.gain.new.self (kept_slots _ _ c.args.slot c.in-Err.ensures.err) c.requires.agreed

pub returns-in-Err-clause-widths : goal.returns-in-Err-clause-widths
returns-in-Err-clause-widths c = λ need enough. covers_slots c.args.tables.now c.gain.new.self (kept_slots _ _ c.args.slot c.in-Err.ensures.err) need

pub returns-clause-agreed : goal.returns-clause-agreed
returns-clause-agreed c =
    let s = c.args.tables.now in
    let t = table_in s c.args.slot in
    let table : t ≡ c.unwrap.result.now = ap (λ o. unwrap_or o no_table) (sym c.get.ensures ∙ ap option_copied c.unwrap.ensures) in
    gained_agreed s c.gain.new.self c.args.slot _ c.args.id c.args.width c.in_default.ensures.ok
    (wide_gained t c.args.id (rw table c.ids_have_widths.ensures)) c.requires.width c.requires.agreed

pub returns-clause-widths : goal.returns-clause-widths
returns-clause-widths c =
    let s = c.args.tables.now in
    let t = table_in s c.args.slot in
    let table : t ≡ c.unwrap.result.now = ap (λ o. unwrap_or o no_table) (sym c.get.ensures ∙ ap option_copied c.unwrap.ensures) in
    gained_covers s c.gain.new.self c.args.slot _ c.args.id c.args.width c.in_default.ensures.ok
    (wide_gained t c.args.id (rw table c.ids_have_widths.ensures))
