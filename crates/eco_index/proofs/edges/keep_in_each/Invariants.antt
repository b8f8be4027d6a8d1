use Rattle.eco_index.proofs.Common.{◌≡◌, ℕ, length, cond, nat_lt, Id, edge}
use Rattle.eco_index.proofs.Sweeping.{swept_edge}
use Rattle.eco_index.proofs.edges.keep_in_each.Given as goal

abbrev pub invariant-loop-slot : goal.invariant-loop-slot
invariant-loop-slot g l =
    ((n : ℕ) (i : Id) → edge l.lists.items n i
    ≡ cond (nat_lt n l.slot) (swept_edge (g.T.Occupancy.has_table l.tables) l.fn.lists.items n i) (edge l.fn.lists.items n i))
    × (length l.lists.items ≡ length l.fn.lists.items)
