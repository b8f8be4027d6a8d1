use Rattle.eco_bodies.proofs.Common.{rules}
use Rattle.std.proofs.lemmas.Result.{on_ok_weaker}
use Rattle.eco_bodies.proofs.RowSums.{nothing_from, nothing_into, nothing_matched, sums_set}
use Rattle.eco_bodies.proofs.change.add_up_all.Goals as goal

pub returns-in_default : goal.returns-in_default
returns-in_default g c =
    nothing_into c.args.writes.now c.args.into c.args.from c.entries-entries.result.now (g.R.BodyRows.rows_of c.args.rows.now) c.entries-entries.ensures
    c.args.stage.now (search rules)

pub returns-in_default-entry_in : goal.returns-in_default-entry_in
returns-in_default-entry_in g c =
    nothing_from c.args.writes.now c.args.into c.args.from c.entries-entries.result.now (g.R.BodyRows.rows_of c.args.rows.now) c.entries-entries.ensures
    c.args.stage.now (search rules)

pub returns-then-not-matches_one : goal.returns-then-not-matches_one
returns-then-not-matches_one g c =
    nothing_matched c.args.writes.now c.args.into c.args.from c.entries-entries.result.now (g.R.BodyRows.rows_of c.args.rows.now) c.entries-entries.ensures
    c.in-Some.id c.args.stage.now (search rules) (search rules)

pub returns : goal.returns
returns g c =
    on_ok_weaker c.set_sums.result
    (sums_set c.args.writes.now c.args.into c.args.from c.entries-entries.result.now (g.R.BodyRows.rows_of c.args.rows.now) c.entries-entries.ensures
    c.in-Some.id c.in-Some-entry_in._other c.args.stage.now c.set_sums.new.stage (search rules) (search rules) (search rules))
    c.set_sums.ensures
