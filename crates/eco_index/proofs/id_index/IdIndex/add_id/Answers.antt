use Rattle.eco_index.proofs.Common.{true, has_one, keys_of, lists_of, matches_id, One, Two, on_err, on_ok}
use Rattle.eco_index.proofs.Keys.{key_matches, keeps_as, own_turns, turns_as}
use Rattle.eco_index.proofs.id_index.IdIndex.add_id.Goals as goal

pub returns-in-One-clause-ok : goal.returns-in-One-clause-ok
returns-in-One-clause-ok c =
    let i = One c.in-One.entity in
    rw c.in-One.is (on_ok c.add_keys.result
    (turns_as true (has_one (keys_of i)) (matches_id i) (lists_of c.args.self.now.slots) (lists_of c.add_keys.new.self.slots) c.args.slot (key_matches i))
    c.add_keys.ensures.ok)

pub returns-in-One-clause-err : goal.returns-in-One-clause-err
returns-in-One-clause-err c =
    let i = One c.in-One.entity in
    rw c.in-One.is (on_err c.add_keys.result
    (keeps_as (has_one (keys_of i)) (matches_id i) (lists_of c.args.self.now.slots) (lists_of c.add_keys.new.self.slots) c.args.slot (key_matches i))
    c.add_keys.ensures.err)

pub returns-in-Two-clause-ok : goal.returns-in-Two-clause-ok
returns-in-Two-clause-ok c =
    rw c.in-Two.is (on_ok c.add_pair.result
    (own_turns c.args.before c.in-Two.relationship c.in-Two.target (lists_of c.args.self.now.slots) (lists_of c.add_pair.new.self.slots) c.args.slot
    true c.requires)
    (rw c.own_count-own.ensures at c.add_pair.ensures.ok))

pub returns-in-Two-clause-err : goal.returns-in-Two-clause-err
returns-in-Two-clause-err c =
    let i = Two c.in-Two.relationship c.in-Two.target in
    rw c.in-Two.is (on_err c.add_pair.result
    (keeps_as (has_one (keys_of i)) (matches_id i) (lists_of c.args.self.now.slots) (lists_of c.add_pair.new.self.slots) c.args.slot (key_matches i))
    c.add_pair.ensures.err)
