use Rattle.eco_traits.proofs.Common.{sym, ap, subst, ◌∙◌, option_copied, Replaces}
use Rattle.std.specs.Prelude.{IfSome}
use Rattle.eco_traits.proofs.Targets.{short_target_found, short_target_there}
use Rattle.eco_traits.proofs.target.short_target.Goals as goal

pub returns-clause-target : goal.returns-clause-target
returns-clause-target g c =
    let w = g.H.Holdings.world c.args.holdings.now in
    let own = c.unwrap-own.result.now in
    short_target_found w c.args.entity c.args.id own (ap option_copied (sym c.unwrap-own.ensures) ∙ c.type_of.ensures) c.short_way.result
    (subst (λ i. IfSome c.short_way.result (Replaces w c.args.entity i own)) (sym c.in-Two.is) c.short_way.ensures.replaces)

pub returns-clause-there : goal.returns-clause-there
returns-clause-there g c =
    short_target_there (g.H.Holdings.world c.args.holdings.now) c.args.entity c.args.id c.unwrap-own.result.now
    (ap option_copied (sym c.unwrap-own.ensures) ∙ c.type_of.ensures) c.short_way.result c.short_way.ensures.among
