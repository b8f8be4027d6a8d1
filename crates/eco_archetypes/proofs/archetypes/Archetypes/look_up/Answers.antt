use Rattle.eco_archetypes.proofs.Common.{ℕ, Option, Some, None, IfNone, sym, is_type, type_at}
use Rattle.eco_index.specs.Contents.{slots_by_mark}
use Rattle.eco_archetypes.proofs.ArchetypeLemmas.{find_none, find_passes, none_typed, type_is}
use Rattle.eco_archetypes.proofs.archetypes.Archetypes.look_up.Goals as goal

not_found : {P : Type 0} (o : Option ℕ) → P → IfNone o P
not_found None none = none
not_found (Some n) none = tt

pub returns-in_err-slot-clause-none : goal.returns-in_err-slot-clause-none
returns-in_err-slot-clause-none c =
    let s = c.self.inside.tables in
    let ids = c.args.type_list.now in
    rw (← c.self.view_is)
    (not_found c.from_residual.result
    (none_typed (type_at s) (slots_by_mark c.self.inside.by_type) ids c.slots-slots.result.now c.self.invariant.types
    (rw c.mark.ensures at c.slots-slots.ensures)
    (find_none (λ n. is_type (type_at s n) ids) c.slots-slots.result.now (sym (rw c.as_slice.ensures.ids at c.in_err-slot.ensures)))))

pub returns-clause-found : goal.returns-clause-found
returns-clause-found c =
    let s = c.self.inside.tables in
    let ids = c.args.type_list.now in
    rw (← c.self.view_is)
    (type_is (type_at s c.in_ok-slot.slot) ids (find_passes (λ n. is_type (type_at s n) ids) c.slots-slots.result.now c.in_ok-slot.slot
    (sym (rw c.as_slice.ensures.ids at c.in_ok-slot.ensures))))
