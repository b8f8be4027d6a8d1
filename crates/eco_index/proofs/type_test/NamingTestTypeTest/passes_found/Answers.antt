use Rattle.eco_index.specs.TypeTests.{type_names, naming}
use Rattle.eco_index.proofs.TypeTests.{names_match, only_group}
use Rattle.eco_index.proofs.type_test.NamingTestTypeTest.passes_found.Goals as goal

pub returns : goal.returns
returns c =
    let e = c.args.self.now.entity in
    only_group (λ ids. type_names ids e) (naming e) c.args._group c.args._type_list.now (names_match e) c.requires.group c.requires.found
