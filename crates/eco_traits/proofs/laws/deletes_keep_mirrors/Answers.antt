use Rattle.eco_ids.proofs.Mirrors.{mirrored_of}
use Rattle.eco_traits.proofs.laws.deletes_keep_mirrors.Goals as goal

pub returns-clause-one : goal.returns-clause-one
returns-clause-one c = λ e w r new lawful step. mirrored_of new (c.steps_keep_lawful.ensures.delete e w r new lawful step)

pub returns-clause-with : goal.returns-clause-with
returns-clause-with c = λ i w r new lawful step. mirrored_of new (c.steps_keep_lawful.ensures.delete_with i w r new lawful step)
