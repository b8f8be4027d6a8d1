-- Rows that stand in slices.
use Rattle.eco_systems.specs.Rows.{ValuedRow}
use Rattle.eco_bodies.specs.declared.row.LentRow.{LentRow}

-- the row that is lent
abbrev pub lent_row : LentRow → ValuedRow
lent_row r = record { entity = r.entity; entries = r.entries.now; values = r.values.now }
