use Rattle.eco_entities.proofs.Common.{◌≡◌, ◌+◌, ◌-◌, Bool, List, ◌++◌, length, replicate, false, ap, sym, ◌∙◌, arith}
use Rattle.eco_entities.proofs.Levels.{flags_grown, length-bits_below, length-appended, levelled_groups, levelled_words, levelled_indices}
use Rattle.eco_entities.proofs.free_set.FreeSet.grow_levels.Goals as goal

pub invariant_of-self-in_err-grow_to-2 : goal.invariant_of-self-in_err-grow_to-2
invariant_of-self-in_err-grow_to-2 c =
    let known : length c.args.self.now ≡ c.self.inside.len = ap length (sym c.self.view_is) ∙ length-bits_below _ _ in
    let groups : length c.grow_to.new.self ≡ length c.self.inside.groups + (c.div_ceil.result - length c.self.inside.groups) =
    length-appended _ _ _ c.in_ok-grow_to.ensures.ok in
    rw c.in_err-grow_to-2.ensures.err
    (levelled_groups _ _ _ _ _ _ c.self.invariant c.in_ok-grow_to.ensures.ok (omega arith))

pub invariant_of-self-in_err-grow_to-3 : goal.invariant_of-self-in_err-grow_to-3
invariant_of-self-in_err-grow_to-3 c =
    let known : length c.args.self.now ≡ c.self.inside.len = ap length (sym c.self.view_is) ∙ length-bits_below _ _ in
    let groups : length c.grow_to.new.self ≡ length c.self.inside.groups + (c.div_ceil.result - length c.self.inside.groups) =
    length-appended _ _ _ c.in_ok-grow_to.ensures.ok in
    let words : length c.grow_to-2.new.self ≡ length c.self.inside.words + (c.div_ceil-words.result - length c.self.inside.words) =
    length-appended _ _ _ c.in_ok-grow_to-2.ensures.ok in
    rw c.in_err-grow_to-3.ensures.err
    (levelled_words _ _ _ _ _ _
    (levelled_groups _ _ _ _ _ _ c.self.invariant c.in_ok-grow_to.ensures.ok (omega arith))
    c.in_ok-grow_to-2.ensures.ok (omega arith) (omega arith))

pub invariant_of-self-2 : goal.invariant_of-self-2
invariant_of-self-2 c =
    let known : length c.args.self.now ≡ c.self.inside.len = ap length (sym c.self.view_is) ∙ length-bits_below _ _ in
    let groups : length c.grow_to.new.self ≡ length c.self.inside.groups + (c.div_ceil.result - length c.self.inside.groups) =
    length-appended _ _ _ c.in_ok-grow_to.ensures.ok in
    let words : length c.grow_to-2.new.self ≡ length c.self.inside.words + (c.div_ceil-words.result - length c.self.inside.words) =
    length-appended _ _ _ c.in_ok-grow_to-2.ensures.ok in
    let indices : length c.grow_to-3.new.self ≡ length c.self.inside.indices + (c.div_ceil-indices.result - length c.self.inside.indices) =
    length-appended _ _ _ c.in_ok-grow_to-3.ensures.ok in
    levelled_indices _ _ _ _ _ _ _
    (levelled_words _ _ _ _ _ _
    (levelled_groups _ _ _ _ _ _ c.self.invariant c.in_ok-grow_to.ensures.ok (omega arith))
    c.in_ok-grow_to-2.ensures.ok (omega arith) (omega arith))
    (omega arith) (omega arith) (omega arith) c.in_ok-grow_to-3.ensures.ok (omega arith) (omega arith)

pub returns-clause-ok : goal.returns-clause-ok
returns-clause-ok c =
    flags_grown _ c.args.count _ _ _ c.in_ok-grow_to-3.ensures.ok c.self.invariant.past
    ∙ ap (λ (xs : List Bool). xs ++ replicate c.args.count false) c.self.view_is
