use Rattle.eco_bodies.proofs.Entries.{own_entries}
use Rattle.eco_bodies.proofs.lawful.scripts_set_their_own_entries.Goals as goal

pub returns : goal.returns
returns c = own_entries c.entries_are_read.ensures
