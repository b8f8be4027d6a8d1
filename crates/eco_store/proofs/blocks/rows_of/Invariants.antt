use Rattle.eco_store.proofs.AnswersCommon.{◌≡◌, ◌++◌, standings_of}
use Rattle.eco_store.proofs.blocks.rows_of.Given as goal

abbrev pub invariant-loop-stands : goal.invariant-loop-stands
invariant-loop-stands l = l.rows.items ++ standings_of l.blocks l.stands-iterator ≡ standings_of l.blocks l.standings
