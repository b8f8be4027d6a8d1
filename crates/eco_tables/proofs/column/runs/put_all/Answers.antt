use Rattle.eco_tables.proofs.Common.{◌+◌, ◌∙◌, ◌<◌, ◌≤◌, arith, refl, length-set, Fits}
use Rattle.std.specs.Prelude.{◌*◌}
use Rattle.eco_tables.proofs.Runs.{put_more, value_fits}
use Rattle.eco_tables.proofs.column.runs.put_all.Goals as goal

pub refit-requires : goal.refit-requires
refit-requires g c =
    let kept : g.row.M ≤ 8 = c.requires.kept in
    let few : g.row.N ≤ 8 = c.requires.few in
    let kept_size : g.row.M * 8 < 9223372036854775808 = omega (arith, kept) in
    let size : g.row.N * 8 < 9223372036854775808 = omega (arith, few) in (
      size,
      (
        kept_size,
        (
          c.requires.kept,
          (
            c.requires.few,
            value_fits (Fits g.row.M) c.args.sets.now c.loop-place.place c.index-sets-place.result c.loop-place-test.true c.requires.fits,
          ),
        ),
      ),
    )

pub loop-place-preserved : goal.loop-place-preserved
loop-place-preserved g c =
    let k = c.loop-place.place in
    record {
      values = put_more c.args.rows.now.items c.loop-place.rows.items c.args.first c.args.sets.now k (c.args.first + k)
          c.index-sets-place.result c.refit.result c.loop-place-test.true refl c.loop-place.invariant.values c.refit.ensures;
      long = length-set c.loop-place.rows.items (c.args.first + k) c.refit.result ∙ c.loop-place.invariant.long;
      room = c.loop-place.invariant.room;
    }
