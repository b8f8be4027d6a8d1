use Rattle.eco_script.proofs.Editions.{arity_allowed}
use Rattle.eco_script.proofs.perform.component.Goals as goal

pub component-requires : goal.component-requires
component-requires c = record { at_least = c.requires.0; at_most = arity_allowed c.args.world.now.edition c.args.arity c.requires.1 }
