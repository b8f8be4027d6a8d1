use Rattle.eco_entities.proofs.Lives.{lives_once}
use Rattle.eco_entities.proofs.laws.nobody_lives_twice.Goals as goal

pub returns : goal.returns
returns c = lives_once
