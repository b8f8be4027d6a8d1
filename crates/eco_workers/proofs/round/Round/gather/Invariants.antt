use Rattle.eco_workers.proofs.Common.{◌≡◌, ◌+◌, ◌++◌, [], length, All, flat_map, claimed, drawn, IsSeatOf, done_count, dry_count}
use Rattle.eco_workers.proofs.round.Round.gather.Given as goal

abbrev pub invariant-loop-seat : goal.invariant-loop-seat
invariant-loop-seat l = record {
  claim_of : l.claim.table_id ≡ l.self.claims.shared.table_id;
  draw_of : l.draw.table_id ≡ l.self.draws.shared.table_id;
  claim_parts : l.claim.me.0.parts + length l.seats.items ≡ l.self.seats;
  draw_parts : l.draw.me.0.parts + length l.seats.items ≡ l.self.seats;
  empty : (l.claim.me.1 ≡ []) × (l.draw.me.1 ≡ []);
  claimed_is : flat_map claimed l.seats.items ++ l.claim.me.0.numbers ≡ flat_map claimed l.fn.seats.items;
  drawn_is : flat_map drawn l.seats.items ++ l.draw.me.0.numbers ≡ flat_map drawn l.fn.seats.items;
  done_is : l.claim.me.0.refusals + done_count l.seats.items ≡ done_count l.fn.seats.items;
  dry_is : l.draw.me.0.refusals + dry_count l.seats.items ≡ dry_count l.fn.seats.items;
  own : All (IsSeatOf l.self) l.seats.items;
}

abbrev pub decreases-loop-seat : goal.decreases-loop-seat
decreases-loop-seat l = length l.seats.items
