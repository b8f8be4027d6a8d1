use Rattle.eco_frame.proofs.Common.{◌≡◌, false}
use Rattle.eco_frame.proofs.Between.{TookUntil}
use Rattle.eco_frame.proofs.piece.record_between.Given as goal

-- the rows so far
abbrev pub invariant-loop-place : goal.invariant-loop-place
invariant-loop-place g l = record {
  rest : g.D.Draws.rest l.draws ≡ g.D.Draws.rest l.fn.draws;
  wet : g.D.Draws.is_dry l.draws ≡ false;
  took :
      TookUntil (g.B.SystemBody.commands l.body) (g.B.SystemBody.taken l.body) l.rows l.first l.end l.place (g.D.Draws.so_far l.fn.draws)
      (g.D.Draws.so_far l.draws) l.fn.stage l.stage;
}
