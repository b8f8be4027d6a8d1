use Rattle.eco_workers.proofs.Common.{arith, claimed, drawn, by_index}
use Rattle.eco_workers.proofs.Logs.{few_claims}
use Rattle.eco_workers.proofs.worker.turns.Goals as goal

pub unreachable-requires : goal.unreachable-requires
unreachable-requires g c =
    let i = c.loop.invariant in
    let seat = c.loop.drawer.seat in
    let few = few_claims (by_index g.P.Piece.commands) (by_index g.P.Piece.taken) c.args.pieces.now (claimed seat)
    (drawn seat) c.loop.collected.items i.going.log seat.claim.ascending i.going.logged in
    let n = i.count in
    let m = i.most in
    let e = c.loop-test.false in
    absurd (omega (arith, few, n, m, e))
