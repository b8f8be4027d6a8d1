use Rattle.eco_tables.proofs.Common.{ap, sym, ◌∙◌, get_or, Some, zeros}
use Rattle.eco_tables.proofs.Held.{find-absent, found_at, place_within}
use Rattle.eco_tables.proofs.columns.find_value.Goals as goal

pub returns-in_err-place : goal.returns-in_err-place
returns-in_err-place c =
    c.from_residual.ensures ∙ sym (find-absent (λ x. get_or x.values c.args.row zeros) c.args.columns.now c.args.id c.in_err-place.ensures.absent)

pub bounds-columns-place : goal.bounds-columns-place
bounds-columns-place c = place_within _ _ _ c.in_ok-place.ensures.found

pub value-requires : goal.value-requires
value-requires c = rw c.index-columns-place.is (c.requires.row _ _ (place_within _ _ _ c.in_ok-place.ensures.found))

pub returns : goal.returns
returns c =
    ap Some (c.value.ensures.value ∙ ap (λ x. get_or x.values c.args.row zeros) c.index-columns-place.is)
    ∙ sym (found_at _ _ _ c.in_ok-place.ensures.found (λ x. get_or x.values c.args.row zeros) c.index-columns-place.result c.requires.ascending)
