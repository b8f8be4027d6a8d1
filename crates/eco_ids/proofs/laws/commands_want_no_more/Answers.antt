use Rattle.eco_ids.proofs.Common.{and_right}
use Rattle.eco_ids.proofs.Facts.{not_true}
use Rattle.eco_ids.proofs.Common.{Bool, not, ◌&&◌, IsTrue, IsFalse, refl, ap}
use Rattle.eco_ids.proofs.laws.commands_want_no_more.Goals as goal

-- what is refused wants none
refused : (a b : Bool) → IsTrue a → IsFalse (not a && b)
refused a b h = ap (λ t. not t && b) h

pub returns : goal.returns
returns c = record {
  create = λ e w h. not_true _ h;
  add = λ e i w h. refused _ _ h;
  add_there = λ e i w h. and_right _ _ (ap not h);
  set = λ e i v w h. refused _ _ h;
  set_there = λ e i v w h. and_right _ _ (ap not h);
  remove = λ e i w h. refused _ _ h;
  remove_absent = λ e i w h. and_right _ _ (not_true _ h);
  clear = λ e w h. refused _ _ h;
  clear_bare = λ e w h. and_right _ _ (not_true _ h);
  rename = λ e name w h. refused _ _ h;
  rename_to_none = λ e w h. and_right _ _ refl;
  rename_to_own = λ e name w h. and_right _ _ (and_right _ _ (ap not h));
  delete = λ e w h. ap not h;
  delete_with = λ i w h. ap not h;
  remove_all = λ i w h. refused _ _ h;
  remove_all_of_none = λ i w h. and_right _ _ (not_true _ h);
}
