use Rattle.eco_index.proofs.Common.{false, sym, ◌∙◌, has_key, lists_of, matches_id, One, Single}
use Rattle.eco_index.proofs.Keys.{key_matches, or_false, own_turns, turns_as}
use Rattle.eco_index.proofs.id_index.IdIndex.take_id.Goals as goal

pub returns-in-One : goal.returns-in-One
returns-in-One c =
    let e = c.in-One.entity in
    rw c.in-One.is (turns_as false (has_key (Single e)) (matches_id (One e)) (lists_of c.args.self.now.slots) (lists_of c.take.new.self.slots) c.args.slot
    (λ p. sym (or_false (has_key (Single e) p)) ∙ key_matches (One e) p) c.take.ensures)

pub returns-in-Two : goal.returns-in-Two
returns-in-Two c =
    rw c.in-Two.is
    (own_turns c.args.before c.in-Two.relationship c.in-Two.target (lists_of c.args.self.now.slots) (lists_of c.take_pair.new.self.slots) c.args.slot
    false c.requires (rw c.own_count-own.ensures at c.take_pair.ensures))
