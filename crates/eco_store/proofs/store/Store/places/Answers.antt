use Rattle.eco_store.proofs.store.Store.places.Goals as goal

pub returns : goal.returns
returns c = rw (← c.self.view_is) c.new.ensures.entities
