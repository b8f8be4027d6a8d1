use Rattle.eco_world.proofs.Common.{ap, length, nat_lt}
use Rattle.eco_world.proofs.Exact.{added, absent, wanting}
use Rattle.eco_world.proofs.laws.added_queries_are_found.Goals as goal

pub returns : goal.returns
returns c = record {
  added = added;
  refused = record { absent = absent; wanting = wanting };
  needless = λ w slots none. ap (λ rows. nat_lt 0 (length rows)) none;
}
