use Rattle.eco_world.proofs.Common.{◌≡◌, map, take, result_of}
use Rattle.eco_world.proofs.world.queries.rows_of.Given as goal

-- the results so far
abbrev pub invariant-loop-place : goal.invariant-loop-place
invariant-loop-place l = map result_of l.rows.items ≡ take l.place l.results
