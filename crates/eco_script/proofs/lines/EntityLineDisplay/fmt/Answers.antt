use Rattle.eco_script.proofs.FormatsCommon.{append_assoc}
use Rattle.eco_script.proofs.lines.EntityLineDisplay.fmt.Goals as goal

pub returns-clause-writes : goal.returns-clause-writes
returns-clause-writes g c =
    simp append_assoc
    (rw (← c.name_of.ensures, ← c.name_or_dash-name.ensures, ← c.arity_of.ensures, ← c.ids_of.ensures.ids)
    (simp append_assoc at c.write.ensures.writes))
