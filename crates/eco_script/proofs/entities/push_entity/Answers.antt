use Rattle.eco_script.proofs.PrintedCommon.{on_ok_weaker}
use Rattle.eco_script.proofs.Parts.{in_turn}
use Rattle.eco_script.proofs.entities.push_entity.Goals as goal

pub returns : goal.returns
returns c =
    on_ok_weaker c.push_all_held.result
    (λ lines. in_turn _ _ _ _ _ _ _ _ _ (rw c.name_of.ensures at c.in_ok-push_handle.ensures)
    (rw c.arity_of.ensures at c.in_ok-push_arity.ensures) (rw c.ids_of.ensures.ids at lines))
    c.push_all_held.ensures
