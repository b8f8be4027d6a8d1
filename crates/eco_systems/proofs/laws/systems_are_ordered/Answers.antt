use Rattle.eco_systems.proofs.Common.{refl}
use Rattle.eco_systems.proofs.Orders.{order_has_systems}
use Rattle.eco_systems.proofs.laws.systems_are_ordered.Goals as goal

pub returns : goal.returns
returns c = record { order = order_has_systems; phases = refl }
