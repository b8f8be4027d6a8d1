use Rattle.eco_index.proofs.Common.{◌≡◌, false, [], ◌∷◌, arith, lists_of, Pair, Target, Relationship}
use Rattle.eco_index.proofs.Common.{AnyPair}
use Rattle.eco_index.proofs.Joinings.{turns_both, turns_last}
use Rattle.eco_index.proofs.id_index.IdIndex.take_pair.Goals as goal

pub returns-then-own-eq2 : goal.returns-then-own-eq2
returns-then-own-eq2 c =
    let own = lists_of c.args.self.now.slots in
    let first = lists_of c.take.new.self.slots in
    let second = lists_of c.take-2.new.self.slots in
    let target = c.args.target in
    rw c.if-own-eq2.true
    (turns_both false (Pair c.args.relationship target) (Target target ∷ []) own first second c.args.slot c.take.ensures
    (turns_last false (Target target) first second c.args.slot c.take-2.ensures))

pub returns-then-own-eq3 : goal.returns-then-own-eq3
returns-then-own-eq3 c =
    let own = lists_of c.args.self.now.slots in
    let first = lists_of c.take.new.self.slots in
    let second = lists_of c.take-2.new.self.slots in
    let third = lists_of c.take-3.new.self.slots in
    let source = c.args.relationship in
    let target = c.args.target in
    rw c.if-own-eq3.true
    (turns_both false (Pair source target) (Target target ∷ Relationship source ∷ []) own first third c.args.slot c.take.ensures
    (turns_both false (Target target) (Relationship source ∷ []) first second third c.args.slot c.take-2.ensures
    (turns_last false (Relationship source) second third c.args.slot c.take-3.ensures)))

pub returns : goal.returns
returns c =
    let own = lists_of c.args.self.now.slots in
    let first = lists_of c.take.new.self.slots in
    let second = lists_of c.take-2.new.self.slots in
    let third = lists_of c.take-3.new.self.slots in
    let last = lists_of c.take-4.new.self.slots in
    let source = c.args.relationship in
    let target = c.args.target in
    let all : c.args.own ≡ 4 = omega (arith, c.if-own-eq2.false, c.if-own-eq3.false, c.requires.least, c.requires.most) in
    rw all
    (turns_both false (Pair source target) (Target target ∷ Relationship source ∷ AnyPair ∷ []) own first last c.args.slot c.take.ensures
    (turns_both false (Target target) (Relationship source ∷ AnyPair ∷ []) first second last c.args.slot c.take-2.ensures
    (turns_both false (Relationship source) (AnyPair ∷ []) second third last c.args.slot c.take-3.ensures
    (turns_last false AnyPair third last c.args.slot c.take-4.ensures))))
