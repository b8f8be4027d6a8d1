use Rattle.eco_index.proofs.Common.{length, ◌-◌, ◌≤◌, SameEdges}
use Rattle.eco_index.proofs.edges.cover.Given as goal

abbrev pub invariant-loop-lists : goal.invariant-loop-lists
invariant-loop-lists l = SameEdges l.fn.lists.items l.lists.items × (length l.fn.lists.items ≤ length l.lists.items)

abbrev pub decreases-loop-lists : goal.decreases-loop-lists
decreases-loop-lists l = l.len - length l.lists.items
