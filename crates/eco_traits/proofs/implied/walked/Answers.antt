use Rattle.eco_traits.proofs.Closures.{closure_of_walk}
use Rattle.eco_traits.proofs.implied.walked.Goals as goal

pub returns-in-Some : goal.returns-in-Some
returns-in-Some g c =
    closure_of_walk (g.H.Holdings.world c.args.holdings.now) c.args.id c.head_of-head.result c.in-Some.few c.as_slice.result.now c.with_heads.result
    c.head_of-head.ensures c.as_slice.ensures c.in-Some.ensures.all c.with_heads.ensures.members c.with_heads.ensures.ascending

pub returns : goal.returns
returns g c =
    closure_of_walk (g.H.Holdings.world c.args.holdings.now) c.args.id c.head_of-head.result c.in_ok-heads.heads.keys c.as_slice-2.result.now
    c.with_heads-2.result c.head_of-head.ensures c.as_slice-2.ensures.keys c.in_ok-heads.ensures c.with_heads-2.ensures.members
    c.with_heads-2.ensures.ascending
