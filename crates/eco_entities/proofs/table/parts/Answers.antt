use Rattle.eco_entities.proofs.Common.{◌≡◌, ◌∙◌, subst, arith}
use Rattle.eco_entities.proofs.Picked.{ArePartsTo, parts_keep}
use Rattle.eco_entities.proofs.table.parts.Goals as goal

pub returns-clause-cells : goal.returns-clause-cells
returns-clause-cells c = λ d h.
    let all : c.loop-place.place ≡ c.args.count = omega (arith, c.loop-place-test.false, c.loop-place.auto.place-end) in
    parts_keep c.args.old.now c.loop-place.buckets.items c.args.count c.requires.twice
    (subst (λ n. ArePartsTo c.args.count c.args.old.now n c.loop-place.buckets.items) all c.loop-place.invariant.parts)
    (c.loop-place.invariant.count ∙ all) d h
