use Rattle.eco_tables.proofs.Common.{◌∙◌, ◌-◌, ap, arith, drop, length, list_all, pos, sym, take_all}
use Rattle.std.proofs.lemmas.List.{length-drop}
use Rattle.std.specs.Ordering.{int_eq}
use Rattle.eco_ids.specs.declared.value.TheConstants.{FIELD_COUNT}
use Rattle.eco_tables.proofs.Runs.{few_told, zeros_past}
use Rattle.eco_tables.proofs.table.runs.has_few.Goals as goal

pub returns-then-count-clause-told : goal.returns-then-count-clause-told
returns-then-count-clause-told g c =
    let long = c.told-fields in
    let test = c.if-count.true in
    sym (zeros_past c.args.arity (FIELD_COUNT - length c.args.fields.now) c.args.fields.now (omega (arith, long, test)))

pub returns-clause-told : goal.returns-clause-told
returns-clause-told g c =
    let fields = c.args.fields.now in
    let long = c.told-fields in
    let test = c.if-count.false in
    let left = length-drop c.args.arity fields in
    c.are_zero.ensures
    ∙ ap (list_all (λ x. int_eq x (pos 0))) (take_all (length fields - c.args.arity) (drop c.args.arity fields) (omega (arith, left)))
    ∙ few_told c.args.arity (FIELD_COUNT - length fields) fields (omega (arith, long, test))
