use Rattle.eco_entities.proofs.Kept.{record-new, record-settled, record-died, record-admitted}
use Rattle.eco_entities.proofs.Owners.{record-changed}
use Rattle.eco_entities.proofs.laws.changes_touch_one_entity.Goals as goal

pub returns : goal.returns
returns c = record {
  new = record-new;
  made_alive = record-settled;
  changed = λ w e r change h. record-changed w e change r h;
  dead = record-died;
  admitted = record-admitted;
}
