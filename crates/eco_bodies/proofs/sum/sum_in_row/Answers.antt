use Rattle.std.proofs.Common.{refl}
use Rattle.std.proofs.lemmas.Option.{slice_get_read}
use Rattle.eco_bodies.proofs.Fields.{both_in_row}
use Rattle.eco_bodies.proofs.sum.sum_in_row.Goals as goal

pub returns : goal.returns
returns g c =
    both_in_row c.args.one.now c.args.other.now c.args.row c.in_ok-a.a.now c.in_ok-b.b.now c.sums_of.result c.of.result
    (slice_get_read c.args.one.now _ c.args.row c.in_ok-a.a.now refl c.in_ok-a.ensures.lookup.3.0 c.in_ok-a.ensures.lookup.1)
    (slice_get_read c.args.other.now _ c.args.row c.in_ok-b.b.now refl c.in_ok-b.ensures.lookup.3.0 c.in_ok-b.ensures.lookup.1)
    c.sums_of.ensures.long c.sums_of.ensures.sums c.of.ensures
