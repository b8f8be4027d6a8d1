use Rattle.eco_store.proofs.Laid.{still_settled}
use Rattle.eco_store.proofs.store.Store.take_out.Goals as goal

pub invariant_of-self : goal.invariant_of-self
invariant_of-self c = still_settled c.self.inside.layout c.kill.new.self c.kill.ensures.staying c.self.invariant c.kill.ensures.loses.laid
