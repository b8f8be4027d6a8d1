use Rattle.eco_traits.proofs.Common.{◌≡◌, take, IsTrue, Id, id_cmp, has_item, is_ascending, with_heads}
use Rattle.eco_traits.proofs.implied.with_heads.Given as goal

abbrev pub invariant-loop-head : goal.invariant-loop-head
invariant-loop-head l = record {
  members : (j : Id) → has_item id_cmp l.ids j ≡ has_item id_cmp (with_heads l.id (take l.head-index l.heads)) j;
  ascending : IsTrue (is_ascending id_cmp l.ids);
}
