use Rattle.eco_index.proofs.Common.{◌≡◌, true, [], ◌∷◌, arith, err_says, lists_of, Pair, Target, Relationship}
use Rattle.eco_index.proofs.Common.{AnyPair}
use Rattle.eco_index.proofs.Joinings.{keeps_both, turns_both, turns_last}
use Rattle.eco_index.proofs.id_index.IdIndex.add_pair.Goals as goal

pub returns-in_err-add-clause-err : goal.returns-in_err-add-clause-err
returns-in_err-add-clause-err c = err_says c.from_residual.result (λ p n _. c.in_err-add.ensures.err p n)

pub returns-in_err-add-2-clause-err : goal.returns-in_err-add-2-clause-err
returns-in_err-add-2-clause-err c =
    let own = lists_of c.args.self.now.slots in
    let first = lists_of c.add.new.self.slots in
    let second = lists_of c.add-2.new.self.slots in
    let source = c.args.relationship in
    let target = c.args.target in
    err_says c.from_residual-in_err-add-2.result
    (keeps_both (Pair source target) (Target target ∷ Relationship source ∷ AnyPair ∷ []) own first second c.args.slot c.in_ok-add.ensures.ok
    (λ p n _. c.in_err-add-2.ensures.err p n))

pub returns-then-own-eq2-clause-ok : goal.returns-then-own-eq2-clause-ok
returns-then-own-eq2-clause-ok c =
    let own = lists_of c.args.self.now.slots in
    let first = lists_of c.add.new.self.slots in
    let second = lists_of c.add-2.new.self.slots in
    let target = c.args.target in
    rw c.if-own-eq2.true
    (turns_both true (Pair c.args.relationship target) (Target target ∷ []) own first second c.args.slot c.in_ok-add.ensures.ok
    (turns_last true (Target target) first second c.args.slot c.in_ok-add-2.ensures.ok))

pub returns-in_err-add-3-clause-err : goal.returns-in_err-add-3-clause-err
returns-in_err-add-3-clause-err c =
    let own = lists_of c.args.self.now.slots in
    let first = lists_of c.add.new.self.slots in
    let second = lists_of c.add-2.new.self.slots in
    let third = lists_of c.add-3.new.self.slots in
    let source = c.args.relationship in
    let target = c.args.target in
    err_says c.from_residual-in_err-add-3.result
    (keeps_both (Pair source target) (Target target ∷ Relationship source ∷ AnyPair ∷ []) own first third c.args.slot c.in_ok-add.ensures.ok
    (keeps_both (Target target) (Relationship source ∷ AnyPair ∷ []) first second third c.args.slot c.in_ok-add-2.ensures.ok
    (λ p n _. c.in_err-add-3.ensures.err p n)))

pub returns-then-own-eq3-clause-ok : goal.returns-then-own-eq3-clause-ok
returns-then-own-eq3-clause-ok c =
    let own = lists_of c.args.self.now.slots in
    let first = lists_of c.add.new.self.slots in
    let second = lists_of c.add-2.new.self.slots in
    let third = lists_of c.add-3.new.self.slots in
    let source = c.args.relationship in
    let target = c.args.target in
    rw c.if-own-eq3.true
    (turns_both true (Pair source target) (Target target ∷ Relationship source ∷ []) own first third c.args.slot c.in_ok-add.ensures.ok
    (turns_both true (Target target) (Relationship source ∷ []) first second third c.args.slot c.in_ok-add-2.ensures.ok
    (turns_last true (Relationship source) second third c.args.slot c.in_ok-add-3.ensures.ok)))

pub returns-in_err-add-4-clause-err : goal.returns-in_err-add-4-clause-err
returns-in_err-add-4-clause-err c =
    let own = lists_of c.args.self.now.slots in
    let first = lists_of c.add.new.self.slots in
    let second = lists_of c.add-2.new.self.slots in
    let third = lists_of c.add-3.new.self.slots in
    let last = lists_of c.add-4.new.self.slots in
    let source = c.args.relationship in
    let target = c.args.target in
    err_says c.from_residual-in_err-add-4.result
    (keeps_both (Pair source target) (Target target ∷ Relationship source ∷ AnyPair ∷ []) own first last c.args.slot c.in_ok-add.ensures.ok
    (keeps_both (Target target) (Relationship source ∷ AnyPair ∷ []) first second last c.args.slot c.in_ok-add-2.ensures.ok
    (keeps_both (Relationship source) (AnyPair ∷ []) second third last c.args.slot c.in_ok-add-3.ensures.ok
    (λ p n _. c.in_err-add-4.ensures.err p n))))

pub returns-clause-ok : goal.returns-clause-ok
returns-clause-ok c =
    let own = lists_of c.args.self.now.slots in
    let first = lists_of c.add.new.self.slots in
    let second = lists_of c.add-2.new.self.slots in
    let third = lists_of c.add-3.new.self.slots in
    let last = lists_of c.add-4.new.self.slots in
    let source = c.args.relationship in
    let target = c.args.target in
    let all : c.args.own ≡ 4 = omega (arith, c.if-own-eq2.false, c.if-own-eq3.false, c.requires.least, c.requires.most) in
    rw all
    (turns_both true (Pair source target) (Target target ∷ Relationship source ∷ AnyPair ∷ []) own first last c.args.slot c.in_ok-add.ensures.ok
    (turns_both true (Target target) (Relationship source ∷ AnyPair ∷ []) first second last c.args.slot c.in_ok-add-2.ensures.ok
    (turns_both true (Relationship source) (AnyPair ∷ []) second third last c.args.slot c.in_ok-add-3.ensures.ok
    (turns_last true AnyPair third last c.args.slot c.in_ok-add-4.ensures.ok))))
