use Rattle.eco_index.specs.TypeTests.{type_names, naming}
use Rattle.eco_index.proofs.TypeTests.{names_match, one_group}
use Rattle.eco_index.proofs.type_test.NamingTestTypeTest.group_count.Goals as goal

pub returns-clause-needed : goal.returns-clause-needed
returns-clause-needed c = let e = c.args.self.now.entity in one_group (λ ids. type_names ids e) (naming e) (names_match e)
