use Rattle.eco_steps.proofs.Common.{arith, ◌∙◌, ap, sym, option_map, view, padded, integer_in}
use Rattle.eco_steps.proofs.Parts.{field_read, fields_read_all}
use Rattle.eco_steps.proofs.Values.{none_more}
use Rattle.eco_steps.proofs.arguments.read_fields.Goals as goal

pub returns : goal.returns
returns c = fields_read_all view c.args.items.now c.loop-i.fields c.loop-i.i (omega arith) c.loop-i.invariant.found c.loop-i.invariant.zeros

pub loop-i-preserved : goal.loop-i-preserved
loop-i-preserved c =
    let more = field_read view c.args.items.now c.loop-i.i c.index-items-i.result c.loop-i.fields c.in_ok-fields.field-0 c.loop-i-test.true
    c.requires (c.in_ok-fields.ensures ∙ ap (λ v. integer_in (view v)) c.index-items-i.is)
    c.loop-i.invariant.found c.loop-i.invariant.zeros in
    record { found = more.0; zeros = more.1 }

pub returns-in_err-fields : goal.returns-in_err-fields
returns-in_err-fields c =
    c.from_residual.ensures
    ∙ ap (option_map padded) (sym (none_more view integer_in c.args.items.now c.loop-i.i c.index-items-i.result _ c.loop-i-test.true
    (c.in_err-fields.ensures ∙ ap (λ v. integer_in (view v)) c.index-items-i.is) c.loop-i.invariant.found))
