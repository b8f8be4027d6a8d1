use Rattle.eco_traits.proofs.Common.{◌≡◌, length, take, ap, ◌∙◌, subst, arith, take-length, Id, One}
use Rattle.eco_traits.proofs.Verdicts.{none_more, first_found, no_cycle, NoneCloses}
use Rattle.eco_traits.proofs.verdict.first_cycle.Goals as goal

-- what a read past the end of the ids would be
least_id : Id
least_id = One (record { index = 0; generation = 0 })

pub returns-in-Some : goal.returns-in-Some
unfolding least_id
returns-in-Some g c =
    first_found (g.H.Holdings.world c.args.holdings.now) c.args.entity c.args.ids.now c.loop-id.id-index least_id c.in-Some.relationship c.requires
    c.loop-id-test.true c.loop-id.invariant
    c.in_ok-relationship.field-0 c.in_ok-relationship.ensures c.in-Some.is

pub loop-id-preserved : goal.loop-id-preserved
unfolding least_id
loop-id-preserved g c =
    none_more (g.H.Holdings.world c.args.holdings.now) c.args.entity c.args.ids.now c.loop-id.id-index least_id c.loop-id-test.true c.loop-id.invariant
    c.in_ok-relationship.field-0 c.in_ok-relationship.ensures c.in_default.is

pub returns : goal.returns
returns g c =
    let all : c.loop-id.id-index ≡ length c.args.ids.now = omega arith in
    let w = g.H.Holdings.world c.args.holdings.now in
    no_cycle w c.args.entity c.args.ids.now
    (subst (NoneCloses w c.args.entity) (ap (λ n. take n c.args.ids.now) all ∙ take-length c.args.ids.now) c.loop-id.invariant)
