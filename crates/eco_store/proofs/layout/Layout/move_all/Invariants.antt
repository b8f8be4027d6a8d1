use Rattle.eco_store.proofs.Common.{◌≡◌, take, drop, map, SameTypes, seen, IsLaid, after_changes, change_of, HasRoom}
use Rattle.eco_store.proofs.layout.Layout.move_all.Given as goal

abbrev pub invariant-loop-transfer : goal.invariant-loop-transfer
invariant-loop-transfer l = record {
  laid : IsLaid l.self;
  staying : l.self.staying ≡ l.initial.self.staying;
  types : SameTypes l.initial.self.archetypes l.self.archetypes;
  room : HasRoom l.self.archetypes (drop l.transfer-index l.transfers);
  seen : seen l.self ≡ after_changes (seen l.initial.self)
      (map (change_of l.initial.self.archetypes) (take l.transfer-index l.transfers));
}
