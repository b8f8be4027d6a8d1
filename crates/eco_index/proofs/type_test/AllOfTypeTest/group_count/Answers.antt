use Rattle.eco_index.proofs.Common.{◌∷◌}
use Rattle.eco_index.proofs.TypeTests.{each_needed}
use Rattle.eco_index.proofs.type_test.AllOfTypeTest.group_count.Goals as goal

pub returns-clause-needed : goal.returns-clause-needed
returns-clause-needed c = each_needed (c.args.self.now.first ∷ c.args.self.now.others.now)
