use Rattle.eco_index.proofs.Common.{◌≡◌, ◌∙◌, [], ◌∷◌, false, sym, subst, Turns, any_matches, has_own, lists_of, pattern_of}
use Rattle.eco_index.proofs.Common.{Pair, Target, Relationship, AnyPair}
use Rattle.eco_index.proofs.Joinings.{no_pair, own_both}
use Rattle.eco_index.proofs.TypeTests.{nobody_matched}
use Rattle.eco_index.proofs.id_index.IdIndex.leave_pair.Goals as goal

pub returns : goal.returns
returns c =
    let own = lists_of c.args.self.now.slots in
    let first = lists_of c.take.new.self.slots in
    let second = lists_of c.take-2.new.self.slots in
    let last = lists_of c.leave_keys-2.new.self.slots in
    let source = c.args.relationship in
    let target = c.args.target in
    let others = c.args.others.now in
    let none : any_matches others (pattern_of (Target target)) ≡ false =
    (nobody_matched target others (sym c.is_named_in.ensures ∙ c.if-is_named_in.false)).1 in
    own_both (Pair source target) (Target target ∷ Relationship source ∷ AnyPair ∷ []) others own first last c.args.slot
    (no_pair source target others none) c.take.ensures
    (own_both (Target target) (Relationship source ∷ AnyPair ∷ []) others first second last c.args.slot none c.take-2.ensures
    (subst (λ ids. Turns false (has_own (Relationship source ∷ AnyPair ∷ []) ids) second last c.args.slot) c.as_slice-2.ensures.ids c.leave_keys-2.ensures))
