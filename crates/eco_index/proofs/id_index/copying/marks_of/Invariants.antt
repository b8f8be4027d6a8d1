use Rattle.eco_index.proofs.Common.{◌≡◌, false, None, take, lookup, Key, same_key, may_be_kept}
use Rattle.eco_index.proofs.id_index.copying.marks_of.Given as goal

abbrev pub invariant-loop-place : goal.invariant-loop-place
invariant-loop-place l = (k : Key) → may_be_kept l.marks k ≡ false → lookup (same_key k) (take l.place l.slots.entries) ≡ None
