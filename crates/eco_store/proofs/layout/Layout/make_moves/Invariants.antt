use Rattle.eco_store.proofs.Common.{◌≡◌, take, drop, IsTrue, nat_eq, All, list_any, seen, IsLaid, after_moves, AreTyped, HasRoomFor}
use Rattle.eco_store.proofs.layout.Layout.make_moves.Given as goal

abbrev pub invariant-loop-place : goal.invariant-loop-place
invariant-loop-place l = record {
  laid : IsLaid l.self;
  named : All (λ n. IsTrue (list_any (nat_eq n) l.self.staying.targets)) l.slots;
  typed : AreTyped l.self.archetypes l.moves l.slots;
  room : HasRoomFor l.self.archetypes (drop l.place l.slots);
  seen : seen l.self ≡ after_moves (seen l.initial.self) (take l.place l.moves);
}
