use Rattle.eco_index.proofs.Common.{true, take, HasTurned, Turns, any_matches, lists_of}
use Rattle.eco_index.proofs.id_index.IdIndex.add_each.Given as goal

abbrev pub invariant-loop-id : goal.invariant-loop-id
invariant-loop-id l =
    Turns true (any_matches (take l.id-index l.ids)) (lists_of l.initial.self.slots) (lists_of l.self.slots) l.slot
    × HasTurned true l.before (lists_of l.self.slots) l.slot
