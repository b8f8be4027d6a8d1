use Rattle.eco_store.proofs.Common.{◌≡◌, with_places}
use Rattle.eco_store.proofs.transfer.Transfer.place_rows.Given as goal

abbrev pub invariant-loop-row : goal.invariant-loop-row
invariant-loop-row l = record { placed : l.entities ≡ with_places l.initial.entities l.self l.end l.row }
