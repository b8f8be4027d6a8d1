use Rattle.eco_bodies.proofs.Taken.{broke_more, took_more}
use Rattle.eco_bodies.proofs.lawful.rows_are_recorded_one_by_one.Goals as goal

pub returns-clause-next : goal.returns-clause-next
returns-clause-next c commands taken rows = took_more commands taken rows

pub returns-clause-breaks : goal.returns-clause-breaks
returns-clause-breaks c commands taken rows = broke_more commands taken rows
