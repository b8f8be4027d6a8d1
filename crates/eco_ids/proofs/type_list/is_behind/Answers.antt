use Rattle.eco_ids.proofs.Common.{sym, ap, ◌∙◌, is_lt}
use Rattle.eco_ids.proofs.Behind.{goes_behind, goes_first}
use Rattle.eco_ids.proofs.type_list.is_behind.Goals as goal

pub returns-in-Some : goal.returns-in-Some
returns-in-Some c = λ h up.
    goes_behind c.args.ids.now c.args.id c.in-Some.last.now (sym c.in-Some.ensures.value) (sym (ap is_lt c.cmp.ensures) ∙ sym c.is_lt.ensures ∙ h) up

pub returns-in-None : goal.returns-in-None
returns-in-None c = λ h up. goes_first c.args.ids.now c.args.id (sym c.in-None.ensures.value)
