use Rattle.eco_index.proofs.Common.{◌≡◌, ℕ, length, None, cond, lookup, Id, edge, same_id, leads_to}
use Rattle.eco_index.proofs.edges.take_back.Given as goal

abbrev pub invariant-loop-id : goal.invariant-loop-id
invariant-loop-id l =
    ((n : ℕ) (j : Id) → cond (leads_to n (lookup (same_id j) l.own)) None (edge l.lists.items n j)
    ≡ cond (leads_to n (lookup (same_id j) l.fn.own)) None (edge l.fn.lists.items n j))
    × (length l.lists.items ≡ length l.fn.lists.items)

abbrev pub decreases-loop-id : goal.decreases-loop-id
decreases-loop-id l = length l.own
