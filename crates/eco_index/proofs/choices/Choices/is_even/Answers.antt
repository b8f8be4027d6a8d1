use Rattle.eco_index.proofs.Chunked.{chunks_even}
use Rattle.eco_index.proofs.choices.Choices.is_even.Goals as goal

pub returns : goal.returns
returns c = rw (← c.self.view_is) (chunks_even c.self.inside.count c.self.inside.width c.self.inside.entries.items c.self.invariant)
