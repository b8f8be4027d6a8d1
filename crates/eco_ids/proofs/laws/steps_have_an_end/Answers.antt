use Rattle.eco_ids.proofs.Common.{◌&&◌, bare, component_record, id_eq, entity_eq, unfit_actor}
use Rattle.eco_ids.proofs.StepsEnd.{adds_end, admits_end, deletes_one_end, deletes_with_end, loses_end, makes_end, removes_all_end, renames_end}
use Rattle.eco_ids.proofs.StepsEnd.{makes_alive_end, sets_end}
use Rattle.eco_ids.proofs.laws.steps_have_an_end.Goals as goal

pub returns : goal.returns
returns c = record {
  create = λ name w l. makes_end w (bare name);
  component = λ name fields w l. makes_end w (component_record name fields);
  make_alive = λ e w l. makes_alive_end w e;
  add = λ e i w l. adds_end w l e i;
  set = λ e i v w l. sets_end w l e i v;
  remove = λ e i w l. loses_end w (unfit_actor w e) (λ x j. entity_eq x e && id_eq j i);
  clear = λ e w l. loses_end w (unfit_actor w e) (λ x j. entity_eq x e);
  rename = λ e name w l. renames_end w e name;
  remove_all = λ i w l. removes_all_end w i;
  delete = λ e w l. deletes_one_end w e;
  delete_with = λ i w l. deletes_with_end w i;
  admit = λ n w l. admits_end w n;
}
