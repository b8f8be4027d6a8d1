use Rattle.eco_steps.proofs.Common.{◌≤◌, ◌∙◌, ap, length, sym, option_and_then, map, arith, length-map, view, value_of_items}
use Rattle.eco_steps.proofs.Parts.{arity_fits, items_read}
use Rattle.eco_steps.proofs.arguments.read_value.Goals as goal

pub read_fields-requires : goal.read_fields-requires
read_fields-requires c = arity_fits c.args.edition _ (omega arith)

pub returns : goal.returns
returns c =
    let long = length-map c.in_ok-items.items.now view in
    let some : 1 ≤ length c.in_ok-items.items.now = grind arith in
    c.read_fields.ensures ∙ sym (items_read c.args.edition (map view c.in_ok-items.items.now) (omega arith) (omega arith))
    ∙ ap (option_and_then (value_of_items c.args.edition)) c.in_ok-items.ensures
