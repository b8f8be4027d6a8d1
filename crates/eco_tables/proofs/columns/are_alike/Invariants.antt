use Rattle.eco_tables.proofs.Common.{◌≡◌, map, take, length, kind_of}
use Rattle.eco_tables.proofs.columns.are_alike.Given as goal

abbrev pub invariant-loop-place : goal.invariant-loop-place
invariant-loop-place l = (map kind_of (take l.place l.columns) ≡ map kind_of (take l.place l.others)) × (length l.columns ≡ length l.others)
