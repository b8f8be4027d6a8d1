use Rattle.eco_index.proofs.Common.{false, has_own, is_own, keys_of, lists_of, One, Two}
use Rattle.eco_index.proofs.Joinings.{own_id}
use Rattle.eco_index.proofs.Keys.{turns_as}
use Rattle.eco_index.proofs.id_index.IdIndex.leave.Goals as goal

pub returns-in-One : goal.returns-in-One
returns-in-One c =
    let i = One c.in-One.entity in
    rw c.in-One.is (turns_as false (has_own (keys_of i) c.args.others.now) (is_own i c.args.others.now) (lists_of c.args.self.now.slots)
    (lists_of c.leave_single.new.self.slots) c.args.slot (own_id i c.args.others.now) c.leave_single.ensures)

pub returns-in-Two : goal.returns-in-Two
returns-in-Two c =
    let i = Two c.in-Two.relationship c.in-Two.target in
    rw c.in-Two.is (turns_as false (has_own (keys_of i) c.args.others.now) (is_own i c.args.others.now) (lists_of c.args.self.now.slots)
    (lists_of c.leave_pair.new.self.slots) c.args.slot (own_id i c.args.others.now) c.leave_pair.ensures)
