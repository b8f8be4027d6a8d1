use Rattle.eco_workers.proofs.Common.{◌≡◌, sym, ◌∙◌, subst, arith, IfErr, IfOk-weaker, Refusal, NoMoreIds, by_index, base_of, seats_of, IsOut}
use Rattle.eco_workers.proofs.Placed.{batch_by}
use Rattle.eco_workers.proofs.batch.run_batch.Goals as goal

pub finish-requires-clause-count : goal.finish-requires-clause-count
finish-requires-clause-count g c = c.in_ok-round.ensures.work.0 ∙ c.in_ok-count.ensures.count.0

pub finish-requires-clause-all : goal.finish-requires-clause-all
finish-requires-clause-all g c =
    let seats = c.in_ok-round.ensures.work.1 in
    (c.in_ok-worked.ensures.0 ∙ c.in_ok-round.ensures.jobs.0 ∙ sym seats, omega (arith, seats, c.max-seats.ensures))

pub finish-requires-clause-worked : goal.finish-requires-clause-worked
finish-requires-clause-worked g c = c.in_ok-worked.ensures.1

pub returns-clause-batch : goal.returns-clause-batch
returns-clause-batch g c =
    let few : c.args.workers ≡ 1 → seats_of c.in_ok-round.round ≡ 1 = λ one. omega (arith, c.in_ok-round.ensures.work.1, c.min.ensures, c.max-seats.ensures) in
    IfOk-weaker c.finish.result _ _
    (λ r made. batch_by (by_index g.P.Piece.commands) (by_index g.P.Piece.taken) c.args.workers few c.in_ok-round.ensures.indices.0 made)
    c.finish.ensures.batch

pub returns-clause-most : goal.returns-clause-most
returns-clause-most g c =
    IfOk-weaker c.finish.result _ _ (λ r most. omega (arith, most, c.in_ok-round.ensures.indices.0, c.in_ok-round.ensures.indices.1)) c.finish.ensures.most

pub returns-clause-out : goal.returns-clause-out
returns-clause-out g c =
    let f = by_index g.P.Piece.commands in
    let t = by_index g.P.Piece.taken in
    let pieces = c.args.pieces.now in
    subst (λ b. IfErr c.finish.result (λ (e : Refusal). e ≡ NoMoreIds → IsOut f t pieces b c.args.limit)) c.in_ok-round.ensures.indices.0
    (subst (λ l. IfErr c.finish.result (λ (e : Refusal). e ≡ NoMoreIds → IsOut f t pieces (base_of c.in_ok-round.round) l)) c.in_ok-round.ensures.indices.1
    c.finish.ensures.out)
