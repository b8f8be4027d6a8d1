use Rattle.eco_index.proofs.Common.{◌∷◌, length, ap, sym}
use Rattle.eco_index.proofs.TypeTests.{alone_at}
use Rattle.eco_index.proofs.type_test.AllOfTypeTest.pattern_count.Goals as goal

pub returns : goal.returns
returns c =
    let a = c.args.self.now in
    sym (ap length (alone_at (a.first ∷ a.others.now) c.args._group a.first c.requires))
