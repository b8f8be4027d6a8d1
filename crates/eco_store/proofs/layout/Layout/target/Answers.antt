use Rattle.eco_store.proofs.Common.{◌∙◌, ◌∷◌, refl, sym, all_staying, then_rows}
use Rattle.eco_store.proofs.Laid.{plans_same, plans_target}
use Rattle.eco_store.proofs.Targets.{is_targeted, room_waived}
use Rattle.eco_store.proofs.Rowless.{rowless_same}
use Rattle.eco_store.proofs.layout.Layout.target.Goals as goal

pub returns-in_err-slot-clause-plans : goal.returns-in_err-slot-clause-plans
returns-in_err-slot-clause-plans c =
    let l = c.args.self.now in
    plans_same l c.requires c.room_for.new.self l.staying c.room_for.ensures.rows c.room_for.ensures.widths
    (c.in_err-slot.ensures.rowless (all_staying l.staying) c.requires.tidy) refl

pub returns-in-Err-clause-plans : goal.returns-in-Err-clause-plans
returns-in-Err-clause-plans c =
    let l = c.args.self.now in
    let slots = all_staying l.staying in
    plans_same l c.requires c.drop_empty.new.self c.add_target.new.self (then_rows _ _ _ c.room_for.ensures.rows c.drop_empty.ensures.rows)
    (λ was. c.drop_empty.ensures.widths _ (c.room_for.ensures.widths was))
    (c.drop_empty.ensures.rowless slots (c.in_ok-slot.ensures.rowless slots c.requires.tidy)) c.in-Err.ensures.err

pub returns-in-Ok-true-clause-plans : goal.returns-in-Ok-true-clause-plans
returns-in-Ok-true-clause-plans c =
    let l = c.args.self.now in
    let n = c.in_ok-slot.slot in
    plans_target l c.requires c.waive.new.self c.add_target.new.self (then_rows _ _ _ c.room_for.ensures.rows c.waive.ensures.rows)
    (λ was. c.waive.ensures.widths _ (c.room_for.ensures.widths was)) n
    (rowless_same c.room_for.new.self c.waive.new.self (n ∷ all_staying l.staying) c.waive.ensures.rows c.waive.ensures.types
    (c.in_ok-slot.ensures.rowless (all_staying l.staying) c.requires.tidy)) c.in-Ok-true.ensures.ok

pub returns-in-Ok-false-clause-plans : goal.returns-in-Ok-false-clause-plans
returns-in-Ok-false-clause-plans c =
    let l = c.args.self.now in
    plans_target l c.requires c.room_for.new.self c.add_target.new.self c.room_for.ensures.rows c.room_for.ensures.widths c.in_ok-slot.slot
    (c.in_ok-slot.ensures.rowless (all_staying l.staying) c.requires.tidy) c.in-Ok-false.ensures.ok

pub returns-in-Ok-true-clause-typed : goal.returns-in-Ok-true-clause-typed
returns-in-Ok-true-clause-typed c = c.waive.ensures.types c.in_ok-slot.slot ∙ c.in_ok-slot.ensures.typed

pub returns-in-Ok-true-clause-named : goal.returns-in-Ok-true-clause-named
returns-in-Ok-true-clause-named c = rw c.in-Ok-true.ensures.ok (is_targeted c.args.self.now.staying c.in_ok-slot.slot)

pub returns-in-Ok-true-clause-kept : goal.returns-in-Ok-true-clause-kept
returns-in-Ok-true-clause-kept c = λ n ids was. c.waive.ensures.types n ∙ c.in_ok-slot.ensures.types n ids was

pub returns-in-Ok-false-clause-named : goal.returns-in-Ok-false-clause-named
returns-in-Ok-false-clause-named c = rw c.in-Ok-false.ensures.ok (is_targeted c.args.self.now.staying c.in_ok-slot.slot)

pub returns-in-Ok-true-clause-room : goal.returns-in-Ok-true-clause-room
returns-in-Ok-true-clause-room c =
    room_waived c.args.self.now.archetypes c.room_for.new.self c.waive.new.self c.args.self.now.staying.targets c.in_ok-slot.slot _ c.in_ok-slot.ensures.kept
    (sym c.in-Ok-true.field-0-test ∙ c.in-Ok-true.ensures.added) c.waive.ensures.sets

pub returns-in-Ok-false-clause-room : goal.returns-in-Ok-false-clause-room
returns-in-Ok-false-clause-room c = λ n among. c.in_ok-slot.ensures.kept n
