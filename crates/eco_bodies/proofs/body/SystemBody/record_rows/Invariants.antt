use Rattle.eco_bodies.proofs.Common.{◌≡◌, false, take}
use Rattle.eco_bodies.specs.Taking.{AllTook}
use Rattle.eco_bodies.proofs.body.SystemBody.record_rows.Given as goal

-- the rows so far
abbrev pub invariant-loop-place : goal.invariant-loop-place
invariant-loop-place g l = record {
  rest : g.D.Draws.rest l.draws ≡ g.D.Draws.rest l.fn.draws;
  wet : g.D.Draws.is_dry l.draws ≡ false;
  took :
      AllTook (g.Self.SystemBody.commands l.self) (g.Self.SystemBody.taken l.self) (take l.place (g.R.BodyRows.rows_of l.rows))
      (g.D.Draws.so_far l.fn.draws) (g.D.Draws.so_far l.draws) l.fn.stage l.stage;
}
