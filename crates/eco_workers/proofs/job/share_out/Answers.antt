use Rattle.eco_workers.proofs.Common.{length, length-append, [], ◌∷◌, ap, ◌∙◌, sym, subst, arith, rules, All, All-push, All-nil, IsNewSeatOf}
use Rattle.eco_workers.proofs.Common.{IsNewJobOf}
use Rattle.eco_workers.proofs.Popped.{popped_all}
use Rattle.eco_workers.proofs.job.share_out.Goals as goal

pub loop-seat-init : goal.loop-seat-init
loop-seat-init c =
    let jobs = c.in_ok-jobs.ensures.items in
    record {
      count = let n = ap length jobs in omega (arith, n);
      room = search rules;
      left = c.requires;
      own = subst (All (IsNewJobOf c.args.round.now)) (sym jobs) (All-nil (IsNewJobOf c.args.round.now));
    }

pub loop-seat-preserved : goal.loop-seat-preserved
loop-seat-preserved c =
    let i = c.loop-seat.invariant in
    let seat = c.in-Some.seat in
    let e = c.in-Some.ensures.items in
    let rest = c.pop.new.self.items in
    let p = popped_all (IsNewSeatOf c.args.round.now) _ rest seat e i.left in
    let pushed = c.push_reserved.ensures.items in
    let n = ap length e ∙ length-append rest (seat ∷ []) in
    let m = ap length pushed ∙ length-append c.loop-seat.jobs.items (_ ∷ []) in
    record {
      count = omega (arith, n, m, i.count);
      room = search rules;
      left = p.0;
      own = subst (All (IsNewJobOf c.args.round.now)) (sym pushed)
          (All-push (IsNewJobOf c.args.round.now) c.loop-seat.jobs.items _ i.own (record { new = p.1 }));
    }
