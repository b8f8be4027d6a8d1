use Rattle.eco_entities.proofs.Common.{◌≡◌, Some, drop, own_name, given_name, cell_to, IsIn, Entity}
use Rattle.eco_entities.proofs.bucket.Bucket.find.Given as goal

-- the cell of whoever bears the name is still to come
abbrev pub invariant-loop-cell : goal.invariant-loop-cell
invariant-loop-cell l =
    (e : Entity) → own_name given_name l.slots e ≡ Some l.name → IsIn (cell_to l.tag e) l.cell-items → IsIn (cell_to l.tag e) (drop l.cell-index l.cell-items)
