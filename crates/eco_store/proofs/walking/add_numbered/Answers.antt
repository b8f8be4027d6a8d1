use Rattle.eco_store.proofs.AnswersCommon.{rules, arith, lt_of_lt_of_le}
use Rattle.std.proofs.lemmas.Grind.{common_steps}
use Rattle.eco_store.proofs.IndexWalk.{walk_step}
use Rattle.eco_store.proofs.walking.add_numbered.Goals.{in-Some, in_default}
use Rattle.eco_store.proofs.walking.add_numbered.Goals as goal

pub loop-index-preserved : goal.loop-index-preserved
loop-index-preserved c = (
  walk_step c.args.numbers.now c.args.homes.now.indices c.loop-index.index c.loop-index.list.items c.match-standing_at.list.items _
      c.standing_at.result (lt_of_lt_of_le c.loop-index-test.true c.requires.places.1) c.standing_at.ensures
      (elim c.match-standing_at.branch [
        | in-Some w ↦ search rules
        | in_default w ↦ search rules
      ]) c.loop-index.invariant.0,
  elim c.match-standing_at.branch [
    | in-Some w ↦ grind (arith, common_steps)
    | in_default w ↦ grind (arith, common_steps)
  ],
)
