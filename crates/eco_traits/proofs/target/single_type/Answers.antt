use Rattle.eco_traits.proofs.Common.{subst, ComesFreely, HasBrought}
use Rattle.eco_traits.proofs.Freely.{freely_leads_to}
use Rattle.eco_traits.proofs.target.single_type.Goals as goal

pub returns-then-comes_freely : goal.returns-then-comes_freely
returns-then-comes_freely g c =
    let w = g.H.Holdings.world c.args.holdings.now in
    freely_leads_to w c.args.entity c.args.single c.args.traits.now c.requires.traits
    (subst (ComesFreely w c.args.single) c.as_slice.ensures.ids (c.comes_freely.ensures.0 c.if-comes_freely.true))
    c.args.own.now c.in_ok-with_brought.field-0 c.requires.lives c.requires.absent c.requires.sound c.requires.own c.with_brought.ensures.ascending
    (subst (HasBrought c.in_ok-with_brought.field-0 c.args.own.now c.args.single) c.as_slice-then-comes_freely.ensures.ids c.in_ok-with_brought.ensures.members)
    c.in_ok-with_brought.ensures.up
