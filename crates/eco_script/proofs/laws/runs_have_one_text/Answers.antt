use Rattle.eco_script.proofs.Alone.{texts_once, to_end_in_memory}
use Rattle.eco_script.proofs.Determined.{text_may_be}
use Rattle.eco_script.proofs.laws.runs_have_one_text.Goals as goal

pub returns-clause-one : goal.returns-clause-one
returns-clause-one c = texts_once c.scripts_take_one_beginning.ensures c.draws_decide_frames.ensures.alone (record {
  refs = c.texts_read_once.ensures.reference;
  ids = c.texts_read_once.ensures.id;
  queries = c.texts_read_once.ensures.query;
  create = c.steps_have_one_end.ensures.create;
  component = c.steps_have_one_end.ensures.component;
  add = c.steps_have_one_end.ensures.add;
  set = c.steps_have_one_end.ensures.set;
  remove = c.steps_have_one_end.ensures.remove;
  clear = c.steps_have_one_end.ensures.clear;
  rename = c.steps_have_one_end.ensures.rename;
  remove_all = c.steps_have_one_end.ensures.remove_all;
  delete = c.steps_have_one_end.ensures.delete;
  delete_with = c.steps_have_one_end.ensures.delete_with;
  make_alive = c.steps_have_one_end.ensures.make_alive;
})

pub returns-clause-may_be : goal.returns-clause-may_be
returns-clause-may_be c = λ workers s steps text end. (text_may_be workers s steps text end, to_end_in_memory workers s steps text end)
