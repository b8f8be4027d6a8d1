use Rattle.eco_index.proofs.EntriesCommon.{sym}
use Rattle.eco_index.proofs.Chunked.{length_chunks}
use Rattle.eco_index.proofs.choices.Choices.count.Goals as goal

pub returns : goal.returns
returns c = rw (← c.self.view_is) (sym (length_chunks c.self.inside.count c.self.inside.width c.self.inside.entries.items))
