use Rattle.eco_index.proofs.Common.{◌∙◌, add-one, ap, sym}
use Rattle.std.proofs.lemmas.Option.{slice_get-get_or}
use Rattle.eco_index.proofs.PassedOver.{is_first, passed}
use Rattle.eco_index.specs.TypeNames.{named_from}
use Rattle.eco_index.proofs.type_names.first_named.Goals as goal

pub returns-then-names-clause-some : goal.returns-then-names-clause-some
returns-then-names-clause-some c =
    is_first c.args.entity c.args.ids.now c.args.from c.loop-place.place _ c.loop-place-test.true c.loop-place.invariant
    (sym c.names.ensures ∙ c.if-names.true)

pub loop-place-preserved : goal.loop-place-preserved
loop-place-preserved c =
    let ids = c.args.ids.now in
    let n = c.loop-place.place in
    c.loop-place.invariant
    ∙ passed c.args.entity _ _ c.bound_of.ensures (sym c.names.ensures ∙ c.if-names.false) ids n c.last_below-place.result c.requires
    (slice_get-get_or ids n _ c.loop-place-test.true) c.last_below-place.ensures.from c.last_below-place.ensures.within c.last_below-place.ensures.below
    ∙ ap (λ k. named_from ids k c.args.entity) (sym (add-one c.last_below-place.result))
