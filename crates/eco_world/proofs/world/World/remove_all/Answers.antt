use Rattle.eco_world.proofs.Common.{Ok, refl, sym, ◌∙◌, id_eq, asked_by}
use Rattle.eco_world.proofs.Asking.{none_has}
use Rattle.eco_world.proofs.Losing.{nowhere_taken}
use Rattle.eco_world.proofs.Removals.{nobody_loses, removed_all, taken_lawful}
use Rattle.eco_world.proofs.world.World.remove_all.Goals as goal

pub carry_out-requires : goal.carry_out-requires
carry_out-requires c = (λ j. id_eq j c.args.id, rw c.deref.ensures.value (rw (← c.self.view_is) at c.in_ok-changes.ensures))

pub returns-then-not-is_had : goal.returns-then-not-is_had
returns-then-not-is_had c =
    let w = c.args.self.now in
    let none = none_has w c.args.id (sym c.is_had.ensures ∙ c.if-not-is_had.true) in
    rw (sym c.is_builtins.ensures ∙ c.if-is_builtins.false)
    (refl, nobody_loses w c.args.id none ∙ sym (nowhere_taken w c.args.id c.is_lawful.ensures none))

pub remove_all_mirrored-requires-clause-lawful : goal.remove_all_mirrored-requires-clause-lawful
remove_all_mirrored-requires-clause-lawful c =
    taken_lawful c.args.self.now c.args.id c.is_lawful.ensures (c.steps_keep_lawful.ensures.remove_all c.args.id)
    (sym c.is_builtins.ensures ∙ c.if-is_builtins.false)

pub returns : goal.returns
returns c =
    let qs = asked_by c.self.inside.queries.items in
    removed_all c.self.inside.edition c.self.inside.store.entities c.carry_out.new.store.entities qs c.args.self.now c.args.id
    c.in_ok-changes.changes.items c.self.view_is (sym c.symmetric_target.ensures ∙ c.in_default.is)
    c.in_ok-changes.ensures (rw c.deref.ensures.value at c.in_ok-carry_out.ensures.ok) (sym c.is_builtins.ensures ∙ c.if-is_builtins.false)

pub invariant_of-self-2 : goal.invariant_of-self-2
invariant_of-self-2 c = c.steps_keep_lawful.ensures.remove_all c.args.id c.args.self.now (Ok tt) _ c.is_lawful.ensures (returns c)
