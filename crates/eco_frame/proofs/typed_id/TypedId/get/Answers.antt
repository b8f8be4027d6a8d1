use Rattle.std.proofs.Common.{sym, ap, ◌∙◌, Some}
use Rattle.eco_frame.proofs.Typed.{fits_arity}
use Rattle.eco_frame.proofs.typed_id.TypedId.get.Goals as goal

pub returns-clause-whole : goal.returns-clause-whole
returns-clause-whole g c = λ typed.
    let found = sym c.get.ensures ∙ c.in_ok-value.was in
    ap (λ x. Some (g.C.Component.value_of x)) c.from_value.ensures
    ∙ ap (λ v. Some v)
    (g.met.C.Component.forth c.in_ok-value.value
    (fits_arity c.args.world.now c.args.entity c.args.self.id _ typed c.is_lawful.ensures c.in_ok-value.value found))
    ∙ sym found
