use Rattle.eco_traits.proofs.Common.{◌≡◌, take, list_any, is_with, has_item, id_cmp, One, ACYCLIC, EXCLUSIVE}
use Rattle.eco_traits.proofs.pair_traits.PairTraits.of.Given as goal

abbrev pub invariant-loop-id : goal.invariant-loop-id
invariant-loop-id l = record {
  brings : l.told.brings ≡ list_any is_with (take l.id-index l.ids);
  acyclic : l.told.is_acyclic ≡ has_item id_cmp (take l.id-index l.ids) (One ACYCLIC);
  exclusive : l.told.is_exclusive ≡ has_item id_cmp (take l.id-index l.ids) (One EXCLUSIVE);
}
