use Rattle.eco_frame.proofs.Common.{◌≡◌, ◌-◌, ◌≤◌, false}
use Rattle.eco_frame.specs.Rows.{IsRun}
use Rattle.eco_frame.proofs.Between.{TookUntil}
use Rattle.eco_frame.proofs.piece.record_in_columns.Given as goal

-- the rows so far
abbrev pub invariant-loop-place : goal.invariant-loop-place
invariant-loop-place g l = record {
  low : l.first ≤ l.place;
  high : l.place ≤ l.end;
  rest : g.D.Draws.rest l.draws ≡ g.D.Draws.rest l.fn.draws;
  wet : g.D.Draws.is_dry l.draws ≡ false;
  run : IsRun l.columns;
  same : l.columns.rows.now ≡ l.rows;
  took :
      TookUntil (g.B.SystemBody.commands l.body) (g.B.SystemBody.taken l.body) l.rows l.first l.end l.place (g.D.Draws.so_far l.fn.draws)
      (g.D.Draws.so_far l.draws) l.fn.stage l.stage;
}

abbrev pub decreases-loop-place : goal.decreases-loop-place
decreases-loop-place g l = l.end - l.place
