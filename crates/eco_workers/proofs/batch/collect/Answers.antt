use Rattle.eco_workers.proofs.Common.{◌<◌, List, length, [], replicate, sym, ap, ◌∙◌, subst, arith, Collected, by_index, base_of, seats_of, IsBatch}
use Rattle.eco_workers.proofs.Common.{ascends, placed_stages, times}
use Rattle.eco_workers.proofs.Gathered.{all_claimed, alone_ascends}
use Rattle.eco_workers.proofs.Placed.{batch_made, within_pieces}
use Rattle.eco_workers.proofs.batch.collect.Goals as goal

pub place-requires : goal.place-requires
place-requires g c =
    let log = c.in_ok-seats.ensures.log in
    within_pieces (by_index g.P.Piece.commands) (by_index g.P.Piece.taken) c.args.pieces.now log.0 c.in_ok-seats.collected.items c.pieces-count.result
    (sym (c.pieces-count.ensures ∙ c.requires.count)) log.1.collected log.1.good

pub returns-clause-batch : goal.returns-clause-batch
returns-clause-batch g c =
    let f = by_index g.P.Piece.commands in
    let t = by_index g.P.Piece.taken in
    let pieces = c.args.pieces.now in
    let seats = c.in_ok-seats.seats.items in
    let log = c.in_ok-seats.ensures.log in
    let count = c.pieces-count.result in
    let closed = c.close-drawn.ensures in
    let some : 0 < length seats = omega (arith, c.in_ok-seats.ensures.seats.0, c.requires.all.0, c.requires.all.1, c.in_ok-seats.seats.ok) in
    let made = batch_made f t (seats_of c.args.round) pieces log.0 (base_of c.args.round) c.close-drawn.result.1 count
    (sym (c.pieces-count.ensures ∙ c.requires.count)) log.1.good
    (λ x. ap (times x) log.1.claims ∙ all_claimed x count c.close-drawn.result.0 seats some c.in_ok-seats.ensures.seats.2
    (λ h. closed.done h ∙ sym c.pieces-count.ensures) (closed.claimed x))
    (λ x. ap (times x) log.1.draws ∙ closed.drawn x)
    (λ one.
    let up = alone_ascends seats (omega (arith, c.in_ok-seats.ensures.seats.0, c.requires.all.0, c.in_ok-seats.seats.ok)) in
    (ap ascends log.1.claims ∙ up.0, ap ascends log.1.draws ∙ up.1)) in
    let stages = c.in_ok-stages.ensures ∙ ap (λ (l : List Collected). placed_stages l (replicate count [])) log.1.collected in
    subst (IsBatch f t (seats_of c.args.round) pieces (base_of c.args.round) c.close-drawn.result.1) (sym stages) made
