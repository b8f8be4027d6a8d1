use Rattle.eco_workers.proofs.Common.{◌≡◌, ◌++◌, [], replicate, into_iter_items, placed_stages}
use Rattle.eco_workers.proofs.order.place.Given as goal

abbrev pub invariant-loop-piece : goal.invariant-loop-piece
invariant-loop-piece l = record {
  can : (goal.iterator-loop-piece).can_next l.piece-iterator;
  ends : (goal.iterator-loop-piece).is_finite l.piece-iterator;
  left : l.yielded ++ into_iter_items l.piece-iterator ≡ l.fn.pieces.items;
  placed : l.stages.items ≡ placed_stages l.yielded (replicate l.fn.count []);
}
