use Rattle.eco_entities.proofs.Common.{◌≡◌, Bool, List, ◌++◌, length, replicate, false, ap, sym, ◌∙◌, arith}
use Rattle.std.proofs.lemmas.List.{append-nil}
use Rattle.eco_entities.proofs.Levels.{flags_grown, length-bits_below, levelled_indices}
use Rattle.eco_entities.proofs.free_set.FreeSet.grow.Goals as goal

pub invariant_of-self : goal.invariant_of-self
invariant_of-self c =
    let known : length c.args.self.now ≡ c.self.inside.len = ap length (sym c.self.view_is) ∙ length-bits_below _ _ in
    let v = c.self.invariant in
    levelled_indices _ _ 0 c.self.inside.indices _ _ _ v (omega arith) (omega arith) (omega arith) (sym (append-nil c.self.inside.indices))
    v.words_room v.indices_bounded

pub returns-then-div_ceil-len-clause-ok : goal.returns-then-div_ceil-len-clause-ok
returns-then-div_ceil-len-clause-ok c =
    flags_grown _ c.args.count 0 c.self.inside.indices _ (sym (append-nil c.self.inside.indices)) c.self.invariant.past
    ∙ ap (λ (xs : List Bool). xs ++ replicate c.args.count false) c.self.view_is
