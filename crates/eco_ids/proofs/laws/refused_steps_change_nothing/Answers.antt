use Rattle.eco_ids.proofs.Common.{None, bare, component_record}
use Rattle.eco_ids.proofs.Ends.{adds_settled, admits_settled, clears_settled, deletes_one_settled, deletes_with_settled, makes_settled, removes_all_settled}
use Rattle.eco_ids.proofs.Ends.{removes_settled, renames_settled, makes_alive_settled, sets_settled}
use Rattle.eco_ids.proofs.laws.refused_steps_change_nothing.Goals as goal

pub returns : goal.returns
returns c = record {
  create = λ name w. (makes_settled (λ r. r.name) w (bare name)).kept;
  component = λ name fields w. (makes_settled (λ r. r.name) w (component_record name fields)).kept;
  make_alive = λ e w. (makes_alive_settled w e (bare None)).kept;
  add = λ e i w. (adds_settled w e i).kept;
  set = λ e i v w. (sets_settled w e i v).kept;
  remove = λ e i w. (removes_settled w e i).kept;
  clear = λ e w. (clears_settled w e).kept;
  rename = λ e name w. (renames_settled w e name).kept;
  remove_all = λ i w. (removes_all_settled w i).kept;
  delete = λ e w. (deletes_one_settled w e).kept;
  delete_with = λ i w. (deletes_with_settled w i).kept;
  admit = λ n w. (admits_settled w n).kept;
}
