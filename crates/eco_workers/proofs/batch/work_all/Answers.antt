use Rattle.eco_workers.proofs.Common.{◌≡◌, ◌+◌, ◌∷◌, ◌++◌, [], length, length-append, ap, ◌∙◌, sym, subst, arith, vec_len, IfOk, All}
use Rattle.eco_workers.proofs.Common.{All-push, Worked, by_index, IsNewJobOf, IsWorked}
use Rattle.std.specs.Option.{option_to_list}
use Rattle.eco_workers.proofs.Popped.{popped_all}
use Rattle.eco_workers.proofs.batch.work_all.Goals as goal

pub returns : goal.returns
returns g c =
    let W : Worked → Type 0 = IsWorked (by_index g.P.Piece.commands) (by_index g.P.Piece.taken) c.args.pieces.now c.args.round.now in
    let pushed = c.in_ok-push.ensures.items in
    let others = subst (λ r. IfOk r (λ v. (vec_len v ≡ vec_len c.pop.new.self) × All W v.items)) c.in_ok-worked.was c.work_last_and_others-own.ensures.others in
    let own = c.work_last_and_others-own.ensures.last in
    let m = ap length pushed ∙ length-append c.in_ok-worked.worked.items (c.work_last_and_others-own.result.0 ∷ []) in
    let fewer : vec_len c.pop.new.self + 1 ≡ vec_len c.args.jobs = grind (arith, c.pop.ensures.cases) in
    let long : vec_len c.push.new.self ≡ vec_len c.args.jobs =
    omega (arith, fewer, m, others.0, c.in_ok-worked.worked.ok, c.push.new.self.ok) in
    (long, subst (All W) (sym pushed) (All-push W c.in_ok-worked.worked.items c.work_last_and_others-own.result.0 others.1 own))

pub work_last_and_others-own-requires : goal.work_last_and_others-own-requires
work_last_and_others-own-requires g c =
    let rest = c.pop.new.self.items in
    let is = c.pop.ensures.items ∙ ap (λ last. rest ++ option_to_list last) c.unwrap-last.ensures in
    let p = popped_all (IsNewJobOf c.args.round.now) c.args.jobs.items rest c.unwrap-last.result is c.requires.jobs in
    (c.type_bounds.sync-P, (c.type_bounds.sync-R, (p.1, (p.0, c.requires.count))))
