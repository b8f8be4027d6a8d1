use Rattle.eco_workers.proofs.Common.{◌≡◌, true, List, length, length-append, [], ◌∷◌, ◌++◌, ap, ◌∙◌, sym, subst, arith, rules, All, All-push}
use Rattle.eco_workers.proofs.Common.{All-nil, Seat, is_done, IsSeatOf, Worked, End, Done, by_index, IsWorked, HasEnded}
use Rattle.eco_workers.proofs.Popped.{popped_all}
use Rattle.eco_workers.proofs.Gathered.{gathered_none, gathered_more}
use Rattle.eco_workers.proofs.batch.gather.Goals as goal

pub loop-one-init : goal.loop-one-init
loop-one-init g c =
    let seats = c.in_ok-seats.ensures.items in
    let f = by_index g.P.Piece.commands in
    let t = by_index g.P.Piece.taken in
    record {
      count = let n = ap length seats in omega (arith, n);
      room = search rules;
      left = c.requires.worked;
      ended = c.requires.done;
      own = subst (All (IsSeatOf c.args.round.now)) (sym {A = List Seat} seats) (All-nil (IsSeatOf c.args.round.now));
      done = let P : Seat → Type 0 = λ s. is_done s ≡ true in subst (All P) (sym {A = List Seat} seats) (All-nil P);
      log = ([], gathered_none f t c.args.pieces.now c.in_ok-seats.seats.items c.new-all.result.items seats c.new-all.ensures.items);
    }

pub loop-one-preserved : goal.loop-one-preserved
loop-one-preserved g c =
    let i = c.loop-one.invariant in
    let one = c.in-Some.one in
    let e = c.in-Some.ensures.items in
    let rest = c.pop.new.self.items in
    let f = by_index g.P.Piece.commands in
    let t = by_index g.P.Piece.taken in
    let ps = c.args.pieces.now in
    let p = popped_all (IsWorked f t ps c.args.round.now) _ rest one e i.left in
    let E : Worked → Type 0 = λ w. w.end ≡ Done in
    let q = popped_all E _ rest one e i.ended in
    let H : End → Type 0 = λ (d : End). HasEnded f t ps d one.seat one.pieces.items in
    let good = subst H q.1 p.1.1 in
    let pushed = c.push_reserved.ensures.items in
    let n = ap length e ∙ length-append rest (one ∷ []) in
    let m = ap length pushed ∙ length-append c.loop-one.seats.items (one.seat ∷ []) in
    record {
      count = omega (arith, n, m, i.count);
      room = search rules;
      left = p.0;
      ended = q.0;
      own = subst (All (IsSeatOf c.args.round.now)) (sym {A = List Seat} pushed)
          (All-push (IsSeatOf c.args.round.now) c.loop-one.seats.items one.seat i.own p.1.0);
      done = let P : Seat → Type 0 = λ s. is_done s ≡ true in subst (All P) (sym {A = List Seat} pushed)
          (All-push P c.loop-one.seats.items one.seat i.done good.done);
      log = (
        i.log.0 ++ good.log,
        gathered_more f t ps c.loop-one.seats.items c.push_reserved.new.self.items
            c.loop-one.all.items c.append.new.self.items one.pieces.items i.log.0 good.log one.seat i.log.1 good.logged pushed c.in_ok-append.ensures.items,
      );
    }
