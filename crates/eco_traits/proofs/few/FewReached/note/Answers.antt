use Rattle.std.proofs.Common.{arith}
use Rattle.eco_traits.proofs.Common.{sym, ◌∙◌}
use Rattle.eco_traits.proofs.Noted.{noted_last}
use Rattle.eco_traits.proofs.few.FewReached.note.Goals as goal

pub returns-clause-noted : goal.returns-clause-noted
returns-clause-noted c =
    noted_last c.self.inside.entities c.args.self.now c.self.inside.count c.args.entity (sym c.self.view_is)
    (omega (arith, c.self.ranges, c.self.invariant, c.if-self-eq-FEW.false))
    (sym c.has.ensures ∙ c.if-has.false)
