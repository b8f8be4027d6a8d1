use Rattle.eco_workers.proofs.Common.{◌≡◌, List, length, length-append, [], ◌∷◌, ap, ◌∙◌, sym, subst, arith, rules, All, nil_from_length}
use Rattle.eco_workers.proofs.Common.{All-push, All-nil, IsSeatOf, Seat, Worked, by_index, IsWorked}
use Rattle.eco_workers.proofs.Popped.{popped_all}
use Rattle.eco_workers.proofs.Shared.{IsSearched, searched_none, searched_more, searched_all}
use Rattle.eco_workers.proofs.batch.all_seats.Goals as goal

pub loop-one-init : goal.loop-one-init
loop-one-init g c =
    let none = c.requires.seats in
    let seats = c.args.seats.items in
    let worked = c.args.worked.items in
    record {
      count = omega (arith, ap length none);
      room = omega (arith, c.requires.room, c.args.worked.ok);
      left = c.requires.worked;
      own = subst (All (IsSeatOf c.args.round.now)) (sym none) (All-nil (IsSeatOf c.args.round.now));
      searched = searched_none (by_index g.P.Piece.commands) (by_index g.P.Piece.taken) c.args.pieces.now worked seats none;
    }

pub loop-one-smaller : goal.loop-one-smaller
loop-one-smaller g c =
    let rest = c.pop.new.self.items in
    let one = c.in-Some.one in
    omega (arith, ap length c.in-Some.ensures.items, length-append rest (one ∷ []))

pub loop-one-preserved : goal.loop-one-preserved
loop-one-preserved g c =
    let i = c.loop-one.invariant in
    let one = c.in-Some.one in
    let e = c.in-Some.ensures.items in
    let rest = c.pop.new.self.items in
    let f = by_index g.P.Piece.commands in
    let t = by_index g.P.Piece.taken in
    let ps = c.args.pieces.now in
    let p = popped_all (IsWorked f t ps c.args.round.now) _ rest one e i.left in
    let pushed = c.push_reserved.ensures.items in
    let n = ap length e ∙ length-append rest (one ∷ []) in
    let m = ap length pushed ∙ length-append c.loop-one.seats.items (one.seat ∷ []) in
    record {
      count = omega (arith, n, m, i.count);
      room = search rules;
      left = p.0;
      own = subst (All (IsSeatOf c.args.round.now)) (sym {A = List Seat} pushed)
          (All-push (IsSeatOf c.args.round.now) c.loop-one.seats.items one.seat i.own p.1.0);
      searched = searched_more f t ps c.args.worked.items c.loop-one.worked.items rest
          c.loop-one.seats.items c.push_reserved.new.self.items one e pushed p.1.1 i.searched;
    }

pub returns-clause-seats : goal.returns-clause-seats
returns-clause-seats g c =
    let i = c.loop-one.invariant in
    (omega (arith, i.count, c.in_default.ensures.cases.0, c.loop-one.worked.ok, c.loop-one.seats.ok, c.args.worked.ok), i.own)

pub returns-clause-shares : goal.returns-clause-shares
returns-clause-shares g c =
    let i = c.loop-one.invariant in
    let f = by_index g.P.Piece.commands in
    let t = by_index g.P.Piece.taken in
    let ps = c.args.pieces.now in
    let none : c.loop-one.worked.items ≡ [] = nil_from_length c.loop-one.worked.items (omega (arith, c.in_default.ensures.cases.0, c.loop-one.worked.ok)) in
    let P : List Worked → Type 0 = λ ws. IsSearched f t ps c.args.worked.items ws c.loop-one.seats.items in
    let h = subst P none i.searched in
    (h.shares, h.shared, λ n at. searched_all f t ps c.args.worked.items c.loop-one.seats.items h n at)
