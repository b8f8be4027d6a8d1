use Rattle.eco_index.proofs.Common.{false, take, HasTurned, Turns, any_matches, lists_of}
use Rattle.eco_index.proofs.id_index.IdIndex.take_all.Given as goal

abbrev pub invariant-loop-id : goal.invariant-loop-id
invariant-loop-id l =
    Turns false (any_matches (take l.id-index l.ids)) (lists_of l.initial.self.slots) (lists_of l.self.slots) l.slot
    × HasTurned false l.before (lists_of l.self.slots) l.slot
