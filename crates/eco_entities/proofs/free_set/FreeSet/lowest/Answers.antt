use Rattle.eco_entities.proofs.Common.{common_steps, ◌/◌, List, Some, None, Bool, ap, sym, ◌∙◌, arith, position_from, IsFirstWord}
use Rattle.eco_entities.proofs.Bits.{first_word_or_none, none_of_none, has_bit_of_zero, within_of_word}
use Rattle.eco_entities.proofs.Levels.{flags_lowest, flags_none, below_len}
use Rattle.eco_entities.proofs.free_set.FreeSet.lowest.Goals as goal

pub lowest_bit-group-requires-clause-first : goal.lowest_bit-group-requires-clause-first
lowest_bit-group-requires-clause-first c = first_word_or_none c.self.inside.groups (Some c.in_ok-first_word.field-0) c.in_ok-first_word.ensures

pub lowest_bit-group-requires-clause-fits : goal.lowest_bit-group-requires-clause-fits
lowest_bit-group-requires-clause-fits c =
    let first : IsFirstWord c.self.inside.groups c.in_ok-first_word.field-0 =
    first_word_or_none c.self.inside.groups (Some c.in_ok-first_word.field-0) c.in_ok-first_word.ensures in
    omega (arith, within_of_word c.self.inside.groups c.in_ok-first_word.field-0 first.marked)

pub returns-in_err-first_word : goal.returns-in_err-first_word
returns-in_err-first_word c =
    c.from_residual.ensures
    ∙ sym (flags_none c.self.inside.len c.self.inside.indices
    (λ k. none_of_none c.self.inside.indices c.self.inside.words k c.self.invariant.words_say
    (λ w. none_of_none c.self.inside.words c.self.inside.groups w c.self.invariant.groups_say
    (λ g. has_bit_of_zero c.self.inside.groups g (first_word_or_none c.self.inside.groups None c.in_err-first_word.ensures (g / 64))))))
    ∙ ap (λ (xs : List Bool). position_from (λ b. b) 0 xs) c.self.view_is

pub returns : goal.returns
returns c = grind (arith, common_steps, below_len, flags_lowest)
