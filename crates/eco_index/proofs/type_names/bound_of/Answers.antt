use Rattle.eco_index.proofs.PassedOver.{beside_pair}
use Rattle.eco_index.proofs.type_names.bound_of.Goals as goal

pub returns-in-Two : goal.returns-in-Two
returns-in-Two c =
    rw c.in-Two.is
    (λ y. beside_pair c.in-Two.target c.args.entity c.bound_beside-in-Two.result c.bound_beside-in-Two.ensures c.in-Two.relationship y)
