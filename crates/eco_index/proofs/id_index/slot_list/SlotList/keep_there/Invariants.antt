use Rattle.eco_index.proofs.Common.{◌≡◌, ◌-◌, ◌<◌, ℕ, true, get_or, length, nat_eq, list_any}
use Rattle.eco_index.proofs.id_index.slot_list.SlotList.keep_there.Given as goal

abbrev pub invariant-loop-place : goal.invariant-loop-place
invariant-loop-place g l =
    ((n : ℕ) → g.T.Occupancy.has_table l.tables n ≡ true → list_any (nat_eq n) l.self.slots ≡ list_any (nat_eq n) l.fn.self.slots)
    × ((i : ℕ) → i < l.place → g.T.Occupancy.has_table l.tables (get_or l.self.slots i 0) ≡ true)
    × (l.self.first ≡ l.fn.self.first)

abbrev pub decreases-loop-place : goal.decreases-loop-place
decreases-loop-place g l = length l.self.slots - l.place
