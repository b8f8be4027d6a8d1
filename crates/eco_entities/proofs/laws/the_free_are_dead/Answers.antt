use Rattle.eco_entities.proofs.Kept.{record_of_next, record_of_free}
use Rattle.eco_entities.proofs.laws.the_free_are_dead.Goals as goal

pub returns : goal.returns
returns c = record { next = record_of_next; free = record_of_free }
