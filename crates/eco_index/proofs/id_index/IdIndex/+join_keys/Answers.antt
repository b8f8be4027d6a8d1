use Rattle.eco_index.proofs.Common.{◌≡◌, ◌∷◌, Bool, false, true, not, ap, sym, subst, ◌∙◌, Turns, has_one, lists_of}
use Rattle.eco_index.proofs.Joinings.{listed_as, turned_back, turned_none, turns_both}
use Rattle.eco_index.proofs.id_index.IdIndex.+join_keys.Goals as goal

not_both : (a b c : Bool) → a ≡ not b → a ≡ c → b ≡ not c
not_both a true c e is = ap not (sym e ∙ is)
not_both a false c e is = ap not (sym e ∙ is)

pub returns-then-is_new-clause-err : goal.returns-then-is_new-clause-err
returns-then-is_new-clause-err t c =
    let m = c.args.self.now.slots in
    let key = c.in-Some.key.now in
    turned_back key (lists_of m) (lists_of c.add.new.self.slots) (lists_of c.join_keys.new.self.slots) (lists_of c.take.new.self.slots) c.args.slot
    (listed_as m key c.args.slot false (not_both _ _ _ c.in_ok-is_new.ensures.is_new c.if-is_new.true)) c.in_ok-is_new.ensures.ok c.in-Err.ensures.err
    c.take.ensures

pub returns-else-is_new-clause-err : goal.returns-else-is_new-clause-err
returns-else-is_new-clause-err t c = λ p n.
    let m = c.args.self.now.slots in
    let key = c.in-Some.key.now in
    c.in-Err.ensures.err p n
    ∙ turned_none key (lists_of m) (lists_of c.add.new.self.slots) c.args.slot
    (listed_as m key c.args.slot true (not_both _ _ _ c.in_ok-is_new.ensures.is_new c.if-is_new.false)) c.in_ok-is_new.ensures.ok p n

pub returns-clause-ok : goal.returns-clause-ok
returns-clause-ok t c =
    let l = lists_of c.args.self.now.slots in
    let l2 = lists_of c.join_keys.new.self.slots in
    let keys : c.args.keys.now ≡ c.in-Some.key.now ∷ c.in-Some.others.now = c.in-Some.ensures.cases.0 in
    subst (λ ks. Turns true (has_one ks) l l2 c.args.slot) (sym keys)
    (turns_both true c.in-Some.key.now c.in-Some.others.now l (lists_of c.add.new.self.slots) l2 c.args.slot
    c.in_ok-is_new.ensures.ok c.in_default-join_keys.ensures.ok)
