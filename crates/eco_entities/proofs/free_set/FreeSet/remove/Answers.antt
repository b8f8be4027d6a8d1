use Rattle.eco_entities.proofs.Common.{common_steps, ◌≡◌, ◌<◌, ◌/◌, ◌∙◌, sym, get_or, refl, arith, eqb-true, eqb-false, without_bit}
use Rattle.eco_entities.proofs.Bits.{length-without_bit, summarizes_emptied, summarizes_kept}
use Rattle.eco_entities.proofs.Levels.{in_flags, flags-without_bit, levelled-clear}
use Rattle.eco_entities.proofs.free_set.FreeSet.remove.Goals.{else-clear-via-then-clear+else-clear-2, else-clear-via-else-clear}
use Rattle.eco_entities.proofs.free_set.FreeSet.remove.Goals as goal

pub clear-requires : goal.clear-requires
clear-requires c =
    let l : c.args.index < c.self.inside.len = in_flags _ _ _ _ c.self.view_is c.requires in omega arith

pub clear-requires-then-clear : goal.clear-requires-then-clear
clear-requires-then-clear c =
    let l : c.args.index < c.self.inside.len = in_flags _ _ _ _ c.self.view_is c.requires in omega arith

pub clear-requires-then-clear-2 : goal.clear-requires-then-clear-2
clear-requires-then-clear-2 c =
    let l : c.args.index < c.self.inside.len = in_flags _ _ _ _ c.self.view_is c.requires in omega arith

pub invariant_of-self : goal.invariant_of-self
invariant_of-self c =
    let l : c.args.index < c.self.inside.len = in_flags _ _ _ _ c.self.view_is c.requires in
    let word : get_or (without_bit c.self.inside.indices c.args.index) (c.args.index / 64) 0 ≡ 0 =
    rw c.clear.ensures.words at (eqb-true _ _ (sym c.clear.ensures.empty ∙ c.if-clear.true)) in
    let group : get_or (without_bit c.self.inside.words (c.args.index / 64)) (c.args.index / 64 / 64) 0 ≡ 0 =
    rw c.clear-then-clear.ensures.words at (eqb-true _ _ (sym c.clear-then-clear.ensures.empty ∙ c.if-clear-2.true)) in
    rw (c.clear.ensures.words, c.clear-then-clear.ensures.words, c.clear-then-clear-2.ensures.words)
    (levelled-clear _ _ _ _ _ _ _ c.self.invariant l (length-without_bit _ _) (length-without_bit _ _)
    (summarizes_emptied _ _ _ c.self.invariant.words_say word (omega arith))
    (summarizes_emptied _ _ _ c.self.invariant.groups_say group (omega arith)))

pub invariant_of-self-else-clear-2 : goal.invariant_of-self-else-clear-2
invariant_of-self-else-clear-2 c =
    let l : c.args.index < c.self.inside.len = in_flags _ _ _ _ c.self.view_is c.requires in
    let word : get_or (without_bit c.self.inside.indices c.args.index) (c.args.index / 64) 0 ≡ 0 =
    rw c.clear.ensures.words at (eqb-true _ _ (sym c.clear.ensures.empty ∙ c.if-clear.true)) in
    let group : get_or (without_bit c.self.inside.words (c.args.index / 64)) (c.args.index / 64 / 64) 0 ≡ 0 → ⊥ =
    rw c.clear-then-clear.ensures.words at (eqb-false _ _ (sym c.clear-then-clear.ensures.empty ∙ c.if-clear-2.false)) in
    rw (c.clear.ensures.words, c.clear-then-clear.ensures.words)
    (levelled-clear _ _ _ _ _ _ _ c.self.invariant l (length-without_bit _ _) refl
    (summarizes_emptied _ _ _ c.self.invariant.words_say word (omega arith))
    (summarizes_kept _ _ _ c.self.invariant.groups_say group (omega arith)))

pub invariant_of-self-else-clear : goal.invariant_of-self-else-clear
invariant_of-self-else-clear c =
    let l : c.args.index < c.self.inside.len = in_flags _ _ _ _ c.self.view_is c.requires in
    let word : get_or (without_bit c.self.inside.indices c.args.index) (c.args.index / 64) 0 ≡ 0 → ⊥ =
    rw c.clear.ensures.words at (eqb-false _ _ (sym c.clear.ensures.empty ∙ c.if-clear.false)) in
    rw c.clear.ensures.words
    (levelled-clear _ _ _ _ _ _ _ c.self.invariant l refl refl
    (summarizes_kept _ _ _ c.self.invariant.words_say word (omega arith))
    c.self.invariant.groups_say)

pub returns-then-clear-2 : goal.returns-then-clear-2
returns-then-clear-2 c = grind (arith, common_steps, in_flags, flags-without_bit)

pub returns-else-clear : goal.returns-else-clear
returns-else-clear c = grind (arith, common_steps, in_flags, else-clear-via-then-clear+else-clear-2, flags-without_bit, else-clear-via-else-clear)
