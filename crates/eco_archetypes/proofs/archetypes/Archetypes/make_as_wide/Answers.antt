use Rattle.eco_archetypes.proofs.Common.{◌≡◌, ℕ, option_map, refl, sym, ap, ◌∙◌, same_Some, TableState, exact_types, then_told, type_at, AreWidths}
use Rattle.eco_archetypes.proofs.ArchetypeLemmas.{changes_type, found_kept, found_made, found_ready}
use Rattle.eco_archetypes.proofs.Turnings.{agreed_slots}
use Rattle.eco_archetypes.proofs.Widths.{made_agreed, made_covers, widths_few, widths_lengths}
use Rattle.eco_archetypes.proofs.archetypes.Archetypes.make_as_wide.Goals as goal

pub insert-requires-clause-lengths : goal.insert-requires-clause-lengths
insert-requires-clause-lengths c = widths_lengths _ _ _ _ c.requires.widths.1

pub insert-requires-clause-widths : goal.insert-requires-clause-widths
insert-requires-clause-widths c = widths_few _ _ _ _ c.requires.widths.1

pub invariant_of-self : goal.invariant_of-self
invariant_of-self c = found_ready c.self.invariant (λ p n. refl) c.reserve_one.ensures.same

pub invariant_of-self-in_err-slot : goal.invariant_of-self-in_err-slot
invariant_of-self-in_err-slot c =
    let s = c.self.inside.tables in
    let same = c.in_err-slot.ensures.err in
    let types = λ (k : ℕ). ap (option_map (λ (t : TableState). t.ids)) (same k) in
    found_kept c.self.invariant types c.insert.ensures.types c.insert.ensures.index (agreed_slots s c.insert.new.tables same c.self.invariant.agreed)
    (exact_types _ _ _ types (c.reserve_one.ensures.same (type_at s) c.self.invariant.cached))

pub invariant_of-self-2 : goal.invariant_of-self-2
invariant_of-self-2 c =
    let s = c.self.inside.tables in
    let s1 = c.insert.new.tables in
    let slot = c.in_ok-slot.slot in
    let ids = c.args.type_list in
    let ws = c.args.widths.now in
    let need = c.requires.widths.0 in
    let sets = c.in_ok-slot.ensures.makes in
    let widths : AreWidths need s ids ws = rw (← c.self.view_is) at c.requires.widths.1 in
    let own : c.type_in.result.now ≡ ids = same_Some _ _ (sym c.type_in.ensures.typed ∙ (changes_type s s1 slot _ sets).there) in
    found_made c.self.invariant sets c.in_ok-slot.ensures.vacant (made_agreed need s s1 slot ids ws sets widths c.self.invariant.agreed)
    (rw (← c.self.view_is) at c.requires.absent) c.insert.ensures.types c.insert.ensures.index
    (then_told _ _ _ _ _ c.reserve_one.ensures.same (rw own at c.tell.ensures.told))

pub returns-clause-widths : goal.returns-clause-widths
returns-clause-widths c = λ need widths.
    rw (← c.self.view_is)
    (made_covers need c.self.inside.tables c.insert.new.tables c.in_ok-slot.slot c.args.type_list c.args.widths.now c.in_ok-slot.ensures.makes
    (rw (← c.self.view_is) at widths))
