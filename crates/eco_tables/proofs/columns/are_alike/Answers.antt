use Rattle.eco_tables.proofs.Common.{◌<◌, arith, ap, sym, ◌∙◌, true≢false, get_or, length, get_or-map, kind_of}
use Rattle.eco_tables.proofs.columns.are_alike.Goals as goal

pub returns-then-not-is_alike : goal.returns-then-not-is_alike
returns-then-not-is_alike c =
    let one = c.index-columns-place.result in
    let there : c.loop-place.place < length c.args.others.now = omega (arith, c.loop-place-test.true, c.loop-place.invariant.1) in (
      λ bad. absurd (true≢false (sym bad)),
      λ same. c.if-not-is_alike.ensures.1
          (ap kind_of c.index-columns-place.is ∙ sym (get_or-map kind_of c.args.columns.now c.loop-place.place _ (kind_of one) c.loop-place-test.true)
          ∙ ap (λ kinds. get_or kinds c.loop-place.place (kind_of one)) same
          ∙ get_or-map kind_of c.args.others.now c.loop-place.place _ (kind_of one) there ∙ sym (ap kind_of c.index-others-place.is)),
    )
