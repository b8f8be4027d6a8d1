use Rattle.eco_bodies.proofs.Common.{◌≡◌, false, take, action_commands, takes_draws}
use Rattle.eco_bodies.specs.Taking.{AllTook}
use Rattle.eco_bodies.proofs.script.record_in_turn.Given as goal

abbrev pub invariant-loop-action : goal.invariant-loop-action
invariant-loop-action g l = record {
  rest : g.D.Draws.rest l.draws ≡ g.D.Draws.rest l.fn.draws;
  wet : g.D.Draws.is_dry l.draws ≡ false;
  took :
      AllTook (action_commands l.writes (g.R.BodyRow.row_of l.row)) takes_draws (take l.action-index l.actions) (g.D.Draws.so_far l.fn.draws)
      (g.D.Draws.so_far l.draws) l.fn.stage l.stage;
}
