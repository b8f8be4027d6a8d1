use Rattle.eco_bodies.proofs.Common.{◌≡◌, get_or, arith, rules, AddId, Sum}
use Rattle.eco_ids.specs.declared.id.Id.TheVariants as id
use Rattle.eco_bodies.proofs.RowSums.{alone_took}
use Rattle.eco_bodies.proofs.script.record_all.Goals as goal

pub returns-in_ok-add_up_all-in-Sum-clause-ok : goal.returns-in_ok-add_up_all-in-Sum-clause-ok
returns-in_ok-add_up_all-in-Sum-clause-ok g c =
    let actions = c.args.actions.now in
    let some = c.in-Sum.len_at_least in
    let few = c.in-Sum.len_below in
    let only : get_or actions 0 (AddId (id.One (record { index = 0; generation = 0 }))) ≡ Sum c.in-Sum.into c.in-Sum.from = search rules in
    alone_took c.args.writes.now c.in-Sum.into c.in-Sum.from actions _ (omega (arith, some, few)) only (g.R.BodyRows.rows_of c.args.rows.now)
    (g.D.Draws.so_far c.args.draws.now) c.args.stage.now c.add_up_all.new.stage c.in_ok-add_up_all-in-Sum.ensures
