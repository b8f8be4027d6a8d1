use Rattle.eco_frame.proofs.Keyed.{entity_noted}
use Rattle.eco_frame.proofs.written.note_entity.Goals as goal

pub returns : goal.returns
returns c = entity_noted c.args.noted.now.keys c.insert.new.self.keys c.args.entity c.in_ok-insert.ensures.keys
