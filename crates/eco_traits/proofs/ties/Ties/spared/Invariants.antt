use Rattle.eco_traits.proofs.CleanupCommon.{◌≡◌, [], take, names_any, taken_among, with_staying}
use Rattle.eco_traits.proofs.ties.Ties.spared.Given as goal

abbrev pub invariant-loop-id : goal.invariant-loop-id
invariant-loop-id l = l.kept ≡ with_staying (names_any (taken_among l.self.places.now.slots l.doomed.nodes.keys)) (take l.id-index l.ids) []
