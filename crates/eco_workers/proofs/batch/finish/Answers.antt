use Rattle.eco_workers.proofs.Common.{List, ap, ◌∙◌, subst, Contains, NoMoreIds, by_index, once, base_of, limit_of, ends_of, IsStop, Worked, Refused}
use Rattle.eco_workers.proofs.Placed.{out_made}
use Rattle.eco_workers.proofs.Shared.{out_found, stop_for_want}
use Rattle.eco_workers.proofs.batch.finish.Goals as goal

pub returns-in-Some-clause-out : goal.returns-in-Some-clause-out
returns-in-Some-clause-out g c is =
    let f = by_index g.P.Piece.commands in
    let t = by_index g.P.Piece.taken in
    let round = c.args.round in
    let seats = c.all_seats-seats.result.items in
    let all = c.all_seats-seats.ensures.shares in
    let closed = c.close.ensures in
    let found = out_found c.as_slice.result.now c.in-Some.refusal is c.in-Some.ensures.some in
    let at = subst (λ (ws : List Worked). Contains (ends_of ws) (Refused found.0 NoMoreIds)) c.as_slice.ensures.value found.1 in
    let short = all.2 found.0 at in
    out_made f t c.args.pieces.now seats all.0 (base_of round) (limit_of round) c.close.result.0 all.1 closed.claimed
    (λ x. closed.drawn x ∙ ap (λ l. once (base_of round) l x) (closed.dry short.0)) short.1.0 short.1.1 short.1.2

pub returns-in-Some-clause-why : goal.returns-in-Some-clause-why
returns-in-Some-clause-why g c =
    let f = by_index g.P.Piece.commands in
    let t = by_index g.P.Piece.taken in
    let stop = subst (λ (ws : List Worked). IsStop ws c.in-Some.refusal) c.as_slice.ensures.value c.in-Some.ensures.some in
    stop_for_want f t c.args.pieces.now c.args.round c.args.worked.items c.in-Some.refusal c.requires.worked stop
