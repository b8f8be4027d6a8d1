use Rattle.eco_index.proofs.Common.{◌≡◌, ◌-◌, length}
use Rattle.eco_index.specs.TypeNames.{named_from}
use Rattle.eco_index.proofs.type_names.first_named.Given as goal

abbrev pub invariant-loop-place : goal.invariant-loop-place
invariant-loop-place l = named_from l.ids l.from l.entity ≡ named_from l.ids l.place l.entity

abbrev pub decreases-loop-place : goal.decreases-loop-place
decreases-loop-place l = length l.ids - l.place
