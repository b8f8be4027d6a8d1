use Rattle.eco_tables.proofs.Common.{◌∙◌, map, None, Some}
use Rattle.eco_ids.proofs.Places.{absent_id, found_id}
use Rattle.eco_tables.proofs.Held.{positions}
use Rattle.eco_tables.proofs.columns.find_column.Goals as goal

pub returns-in_err-place-clause-absent : goal.returns-in_err-place-clause-absent
returns-in_err-place-clause-absent c =
    rw c.from_residual.ensures
    (absent_id (map (λ x. x.id) c.args.columns.now) c.args.id None (c.in_err-place.ensures ∙ positions c.args.columns.now 0 c.args.id))

pub returns-in_ok-place-clause-found : goal.returns-in_ok-place-clause-found
returns-in_ok-place-clause-found c =
    found_id (map (λ x. x.id) c.args.columns.now) c.args.id (Some c.in_ok-place.place)
    (c.in_ok-place.ensures ∙ positions c.args.columns.now 0 c.args.id)
