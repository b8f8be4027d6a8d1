use Rattle.eco_index.proofs.Common.{true, take, Turns, has_one, lists_of}
use Rattle.eco_index.proofs.id_index.IdIndex.add_keys.Given as goal

abbrev pub invariant-loop-key : goal.invariant-loop-key
invariant-loop-key l = Turns true (has_one (take l.key-index l.keys)) (lists_of l.initial.self.slots) (lists_of l.self.slots) l.slot
