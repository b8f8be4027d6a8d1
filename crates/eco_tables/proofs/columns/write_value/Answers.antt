use Rattle.eco_tables.proofs.Common.{ap, sym, ◌∙◌, set}
use Rattle.eco_tables.proofs.Held.{has_place, place_id, place_within, written-absent, written_at}
use Rattle.eco_tables.proofs.columns.write_value.Goals as goal

pub returns-in_default-clause-written : goal.returns-in_default-clause-written
returns-in_default-clause-written c =
    sym (written-absent c.args.columns.now c.args.row c.args.id c.args.value c.in_default.ensures.absent)

pub bounds-columns-place : goal.bounds-columns-place
bounds-columns-place c = place_within _ _ _ c.in-Some.ensures.found

pub write-requires-clause-row : goal.write-requires-clause-row
write-requires-clause-row c = rw c.index-columns-place.is (c.requires.row _ _ (place_within _ _ _ c.in-Some.ensures.found))

pub write-requires-clause-fits : goal.write-requires-clause-fits
write-requires-clause-fits c =
    c.requires.fits c.in-Some.place c.index-columns-place.result (place_within _ _ _ c.in-Some.ensures.found)
    (sym (place_id c.args.columns.now c.in-Some.place c.args.id c.in-Some.ensures.found c.index-columns-place.result))

pub returns-clause-written : goal.returns-clause-written
returns-clause-written c =
    ap (λ x. set c.args.columns.now c.in-Some.place x) c.write.ensures
    ∙ written_at _ _ _ c.in-Some.ensures.found c.args.row c.args.value c.index-columns-place.result c.requires.ascending

pub returns-clause-had : goal.returns-clause-had
returns-clause-had c = sym (has_place _ _ _ c.in-Some.ensures.found)

pub find_near-requires : goal.find_near-requires
find_near-requires c = c.requires.ascending

pub returns-in_default-clause-had : goal.returns-in_default-clause-had
returns-in_default-clause-had c = sym c.in_default.ensures.absent
