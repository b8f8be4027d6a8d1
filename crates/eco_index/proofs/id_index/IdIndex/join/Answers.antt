use Rattle.eco_index.proofs.Common.{true, has_one, keys_of, lists_of, matches_id, One, Two, on_ok}
use Rattle.eco_index.proofs.Keys.{key_matches, turns_as}
use Rattle.eco_index.proofs.id_index.IdIndex.join.Goals as goal

pub returns-in-One-clause-ok : goal.returns-in-One-clause-ok
returns-in-One-clause-ok c =
    let i = One c.in-One.entity in
    rw c.in-One.is (on_ok c.join_keys.result
    (turns_as true (has_one (keys_of i)) (matches_id i) (lists_of c.args.self.now.slots) (lists_of c.join_keys.new.self.slots) c.args.slot (key_matches i))
    c.join_keys.ensures.ok)

pub returns-in-Two-clause-ok : goal.returns-in-Two-clause-ok
returns-in-Two-clause-ok c =
    let i = Two c.in-Two.relationship c.in-Two.target in
    rw c.in-Two.is (on_ok c.join_keys-in-Two.result
    (turns_as true (has_one (keys_of i)) (matches_id i) (lists_of c.args.self.now.slots) (lists_of c.join_keys-in-Two.new.self.slots)
    c.args.slot (key_matches i))
    (rw c.keys_of_pair.ensures at c.join_keys-in-Two.ensures.ok))
