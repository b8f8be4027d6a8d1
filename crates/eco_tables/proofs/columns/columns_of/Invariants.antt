use Rattle.eco_tables.proofs.Common.{◌≡◌, map, take, [], All, kind_of, kinds_of}
use Rattle.eco_tables.proofs.columns.columns_of.Given as goal

abbrev pub invariant-loop-place : goal.invariant-loop-place
invariant-loop-place l = (map kind_of l.columns.items ≡ kinds_of (take l.place l.ids) (take l.place l.widths)) × All (λ c. c.values ≡ []) l.columns.items
