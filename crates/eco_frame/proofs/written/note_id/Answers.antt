use Rattle.eco_frame.proofs.Keyed.{id_noted}
use Rattle.eco_frame.proofs.written.note_id.Goals as goal

pub returns : goal.returns
returns c = id_noted c.args.noted.now.keys c.insert.new.self.keys c.args.id c.in_ok-insert.ensures.keys
