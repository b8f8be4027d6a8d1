use Rattle.std.proofs.lemmas.List.Folds.{list_any_at}
use Rattle.std.proofs.lemmas.Result.{IfOk-from_err}
use Rattle.eco_archetypes.proofs.Common.{[], ap, ◌∙◌, filter, get_or, take_all, err_says, has_rows}
use Rattle.eco_archetypes.proofs.Filtering.{has_none, has_some, passed_over, put_more}
use Rattle.eco_archetypes.proofs.archetypes.Archetypes.few_with_rows.Goals.{then-row_count-gt0+in_ok-put_behind, else-row_count-gt0}
use Rattle.eco_archetypes.proofs.archetypes.Archetypes.few_with_rows.Goals as goal

pub loop-slot-init : goal.loop-slot-init
loop-slot-init c = c.new-found.ensures.items

pub loop-slot-preserved : goal.loop-slot-preserved
loop-slot-preserved c =
    let s = c.args.self.now in
    let xs = c.args.slots.now in
    let i = c.loop-slot.slot-index in
    let count = rw c.self.view_is at c.row_count.ensures in
    elim c.if-row_count-gt0.branch [
      | then-row_count-gt0+in_ok-put_behind w ↦
          put_more (has_rows s) xs i [] c.loop-slot.found.items c.if-row_count-gt0.found.items c.loop-slot-test.true c.loop-slot.invariant
          (has_some s (get_or xs i 0) c.row_count.result count w.if-row_count-gt0.true) (ap (λ v. v.items) w.found-is ∙ w.in_ok-put_behind.ensures)
      | else-row_count-gt0 w ↦
          passed_over (has_rows s) xs i [] c.loop-slot.found.items c.if-row_count-gt0.found.items c.loop-slot-test.true c.loop-slot.invariant
          (has_none s (get_or xs i 0) c.row_count.result count w.if-row_count-gt0.false) (ap (λ v. v.items) w.found-is)
    ]

pub returns-in_err-put_behind-clause-all : goal.returns-in_err-put_behind-clause-all
returns-in_err-put_behind-clause-all c = IfOk-from_err c.from_residual.result _ c.from_residual.ensures.0

pub returns-in_err-put_behind-clause-some : goal.returns-in_err-put_behind-clause-some
returns-in_err-put_behind-clause-some c =
    let s = c.args.self.now in
    let xs = c.args.slots.now in
    let i = c.loop-slot.slot-index in
    let count = rw c.self.view_is at c.row_count.ensures in
    err_says c.from_residual.result
    (list_any_at (has_rows s) xs i 0 c.loop-slot-test.true (has_some s (get_or xs i 0) c.row_count.result count c.if-row_count-gt0.true))

pub returns-clause-all : goal.returns-clause-all
returns-clause-all c =
    c.loop-slot.invariant ∙ ap (filter (has_rows c.args.self.now)) (take_all c.loop-slot.slot-index c.args.slots.now c.loop-slot-test.false)
