use Rattle.eco_traits.proofs.Common.{subst, HasSameIds, One, with_heads}
use Rattle.eco_traits.proofs.Freely.{heads_lead_to}
use Rattle.eco_traits.proofs.target.far_type.Goals as goal

pub returns-in-Some : goal.returns-in-Some
returns-in-Some g c =
    heads_lead_to (g.H.Holdings.world c.args.holdings.now) c.args.entity c.args.single c.in-Some.heads c.in-Some.ensures.free c.in_ok-coming.coming
    c.args.own.now c.in_ok-joined.field-0
    (subst (λ xs. HasSameIds c.in_ok-coming.coming (with_heads (One c.args.single) xs)) c.as_slice.ensures c.in_ok-coming.ensures.members)
    c.in_ok-coming.ensures.ascending c.requires.lives c.requires.absent c.requires.sound c.requires.own c.joined.ensures.ascending
    c.in_ok-joined.ensures.ids
