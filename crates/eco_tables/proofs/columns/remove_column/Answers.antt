use Rattle.eco_tables.proofs.Common.{◌∙◌}
use Rattle.eco_tables.proofs.Turning.{removed_at, removed_none}
use Rattle.eco_tables.proofs.columns.remove_column.Goals as goal

pub returns-in-Some : goal.returns-in-Some
returns-in-Some c =
    c.remove-dropped.ensures.items
    ∙ removed_at c.args.columns.now.items c.in-Some.place c.args.id (rw c.as_slice.ensures.value at c.in-Some.ensures.found) c.requires

pub returns-in_default : goal.returns-in_default
returns-in_default c = removed_none c.args.columns.now.items c.args.id (rw c.as_slice.ensures.value at c.in_default.ensures.absent)
