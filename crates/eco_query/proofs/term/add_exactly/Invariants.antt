use Rattle.eco_query.proofs.Common.{◌≡◌, ◌++◌, map, take}
use Rattle.eco_query.specs.Queries as queries
use Rattle.eco_query.proofs.term.add_exactly.Given as goal

abbrev pub invariant-loop-id : goal.invariant-loop-id
invariant-loop-id l = l.patterns.items ≡ l.fn.patterns.items ++ map queries.exactly (take l.id-index l.ids)
