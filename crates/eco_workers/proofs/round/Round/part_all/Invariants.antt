use Rattle.eco_workers.proofs.Common.{◌≡◌, ◌+◌, ◌-◌, [], vec_len, All, share, IsNewSeatOf}
use Rattle.eco_workers.proofs.round.Round.part_all.Given as goal

abbrev pub invariant-loop-k : goal.invariant-loop-k
invariant-loop-k l = record {
  claim_of : l.claim.table_id ≡ l.self.claims.shared.table_id;
  claim : l.claim.me ≡ (share l.self.pieces (l.seats + 1 - l._k) [] 0, []);
  draw_of : l.draw.table_id ≡ l.self.draws.shared.table_id;
  draw : l.draw.me ≡ (share l.self.limit (l.seats + 1 - l._k) [] 0, []);
  count : vec_len l.list + 1 ≡ l._k;
  new : All (IsNewSeatOf l.self) l.list.items;
}
