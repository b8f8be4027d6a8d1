use Rattle.eco_world.proofs.Common.{IsTrue, ◌↔◌, subst, sym, Entity, Two, has}
use Rattle.eco_world.proofs.Asking.{target_is}
use Rattle.eco_world.proofs.world.holdings.WorldHoldings.is_target.Goals as goal

pub returns : goal.returns
returns c =
    subst (λ b. IsTrue b ↔ ((holder : Entity) × IsTrue (has c.args.self.now holder (Two c.args.relationship c.args.target)))) (sym c.is_held.ensures)
    (target_is c.args.self.now c.args.relationship c.args.target)
