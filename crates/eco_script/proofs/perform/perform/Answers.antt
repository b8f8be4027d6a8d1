use Rattle.eco_script.proofs.Common.{step_view, reached}
use Rattle.eco_script.specs.Answers.{answer_view}
use Rattle.eco_script.proofs.Editions.{step_keeps}
use Rattle.eco_script.proofs.perform.perform.Goals as goal

pub returns-clause-edition : goal.returns-clause-edition
returns-clause-edition g c =
    step_keeps c.args.workers (step_view c.args.step.now) (reached c.args.world.now c.args.systems.now) (answer_view c.answer.result)
    (reached c.answer.new.world c.answer.new.systems) c.answer.ensures
