use Rattle.eco_world.proofs.Common.{◌∙◌, ◌||◌, None, Some, ap, arity, is_some, not, sym}
use Rattle.eco_world.proofs.Data.{value_read}
use Rattle.eco_world.proofs.world.World.value_in.Goals as goal

pub returns-in_err-value : goal.returns-in_err-value
returns-in_err-value c = λ e at.
    c.from_residual.ensures
    ∙ value_read c.args.self.now c.is_lawful.ensures e c.args.id c.args.table.now c.args.row None at c.in_err-value.ensures.kept tt

pub returns-then-is_value : goal.returns-then-is_value
returns-then-is_value c = λ e at.
    value_read c.args.self.now c.is_lawful.ensures e c.args.id c.args.table.now c.args.row (Some c.in_ok-value.value) at
    c.in_ok-value.ensures.kept
    (ap (λ zero. not zero || is_some (arity c.args.self.now c.args.id)) (sym c.in_ok-value.ensures.zero) ∙ sym c.if-is_value.ensures)
