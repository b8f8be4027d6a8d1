use Rattle.eco_world.proofs.Common.{◌≡◌, ℕ, ◌+◌, get_or, slice_cmp, IsSortedWithin, id_cmp, TableRows}
use Rattle.std.specs.Ordering.{is_lt}
use Rattle.eco_world.proofs.world.layout.is_by_type.Given as goal

abbrev pub invariant-loop-table : goal.invariant-loop-table
invariant-loop-table l =
    IsSortedWithin (λ (x y : TableRows). is_lt (slice_cmp id_cmp x.ids.now y.ids.now)) l.tables 0 l.table-index
    × ((k : ℕ) (d : TableRows) → k + 1 ≡ l.table-index → l.last ≡ (get_or l.tables k d).ids.now)
