use Rattle.eco_index.proofs.Common.{◌≡◌, None, take, lookup, same_id}
use Rattle.eco_index.proofs.edges.edge_list.lead_among.Given as goal

abbrev pub invariant-loop-own : goal.invariant-loop-own
invariant-loop-own l = lookup (same_id l.id) (take l.own-index l.edges) ≡ None
