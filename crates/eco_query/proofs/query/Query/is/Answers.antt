use Rattle.eco_query.proofs.SameQueries.{slots-Decides}
use Rattle.eco_query.proofs.query.Query.is.Goals as goal

pub returns : goal.returns
returns c =
    rw (c.eq.ensures, ← c.self.view_is, ← c.other.view_is) (slots-Decides c.self.inside.slots.items c.other.inside.slots.items)
