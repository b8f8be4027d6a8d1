use Rattle.eco_world.proofs.Common.{err_from_is_err_and, listed}
use Rattle.eco_world.proofs.Cached.{listed_for, refused_for}
use Rattle.eco_world.proofs.world.World.tables_of_query.Goals as goal

pub returns-in_err-tables-clause-err : goal.returns-in_err-tables-clause-err
returns-in_err-tables-clause-err c =
    let p = err_from_is_err_and c.from_residual-in_err-tables.result c.from_residual-in_err-tables.ensures.1 in
    rw (p.1, p.2) (refused_for c.args.self.now c.args.query.0 c.in_ok-kept.kept.now.query c.in_ok-kept.ensures.ok c.in_err-tables.ensures.some)

pub returns-clause-all : goal.returns-clause-all
returns-clause-all c =
    listed_for c.args.self.now c.args.query.0 c.in_ok-kept.kept.now.query c.in_ok-kept.ensures.ok (listed c.in_ok-tables.tables.items)
    c.in_ok-tables.ensures.all
