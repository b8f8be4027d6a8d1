use Rattle.eco_systems.proofs.ClosedLists.{among_reached, among_wild, lists_more, lists_none}
use Rattle.eco_systems.proofs.laws.closed_writes_are_listed.Goals as goal

pub returns : goal.returns
returns c = record { none = lists_none; more = lists_more; heads = among_reached; headless = among_wild }
