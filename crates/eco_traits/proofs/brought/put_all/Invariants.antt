use Rattle.eco_traits.proofs.Common.{◌≡◌, fold, take, id_cmp, with_item}
use Rattle.eco_traits.proofs.brought.put_all.Given as goal

abbrev pub invariant-loop-id : goal.invariant-loop-id
invariant-loop-id l = l.list ≡ fold (with_item id_cmp) l.initial.list (take l.id-index l.ids)
