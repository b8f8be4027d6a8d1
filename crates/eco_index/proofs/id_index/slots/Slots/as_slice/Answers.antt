use Rattle.eco_index.proofs.Listings.{distinct_one}
use Rattle.eco_index.proofs.id_index.slots.Slots.as_slice.Goals as goal

pub returns-in-One-clause-distinct : goal.returns-in-One-clause-distinct
returns-in-One-clause-distinct c = rw c.in-One.is (distinct_one _)
