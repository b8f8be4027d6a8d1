use Rattle.eco_world.proofs.Exact.{columns_hold, columns_stand, exact, lent_values}
use Rattle.eco_world.proofs.laws.listings_are_exact.Goals as goal

pub returns : goal.returns
returns c = record {
  tables = record { by_type = exact; with_pattern = λ w p. exact w _; for_slots = λ w slots. exact w _ };
  values = lent_values;
  columns = record { stand = columns_stand; values = columns_hold };
}
