use Rattle.eco_steps.proofs.Common.{Some, map, option_map, ap, ◌∙◌, sym, view, items_list}
use Rattle.eco_steps.proofs.Values.{items_list-items_of}
use Rattle.eco_steps.proofs.arguments.read_list.Goals as goal

pub returns-in-Some : goal.returns-in-Some
returns-in-Some c =
    rw c.as_slice.ensures.value
    (ap Some (sym (items_list-items_of (map view c.in-Some.items.now.items))) ∙ ap (λ o. option_map items_list o) c.in-Some.ensures)
