use Rattle.eco_index.proofs.Common.{false, take, Turns, has_own, lists_of}
use Rattle.eco_index.proofs.id_index.IdIndex.leave_keys.Given as goal

abbrev pub invariant-loop-key : goal.invariant-loop-key
invariant-loop-key l = Turns false (has_own (take l.key-index l.keys) l.others) (lists_of l.initial.self.slots) (lists_of l.self.slots) l.slot
