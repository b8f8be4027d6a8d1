-- What a query asks for.
use Rattle.std.specs.Prelude.{List}
use Rattle.eco_ids.specs.declared.id.Id.{Id}
use Rattle.eco_ids.specs.declared.pattern.Pattern.{Pattern}

-- one slot of a query, as it asks: what an entity must have, must not have, may have, or one of several
pub data QueryTerm : Type 0 where
  And : Pattern → QueryTerm
  Not : Pattern → QueryTerm
  Optional : Id → QueryTerm
  Or : List Id → QueryTerm
