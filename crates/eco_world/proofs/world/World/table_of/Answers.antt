use Rattle.eco_world.proofs.Common.{entities, record_of, subst, Stands}
use Rattle.eco_store.specs.Lent.{IsTableOf}
use Rattle.eco_world.proofs.Lending.{lends_found, listed_found, row_found}
use Rattle.eco_world.proofs.world.World.table_of.Goals as goal

pub returns-clause-lent : goal.returns-clause-lent
returns-clause-lent c =
    lends_found c.args.self.now c.is_lawful.ensures c.of.result c.in_ok-table.table.now
    (subst (λ w. IsTableOf (entities w) c.in_ok-table.table.now) c.self.view_is c.in_ok-table.ensures.listed) c.of.ensures.lent c.of.ensures.whole

pub returns-clause-listed : goal.returns-clause-listed
returns-clause-listed c =
    listed_found c.args.self.now (record_of c.args.self.now c.args.entity) _ c.in_ok-table.table.now c.in_ok-table.row
    (subst (λ w. IsTableOf (entities w) c.in_ok-table.table.now) c.self.view_is c.in_ok-table.ensures.listed)
    (subst (λ w. Stands (record_of w c.args.entity) c.in_ok-table.table.now c.in_ok-table.row) c.self.view_is c.in_ok-table.ensures.stands)
    c.of.ensures.listed

pub returns-clause-own : goal.returns-clause-own
returns-clause-own c =
    row_found c.args.self.now (record_of c.args.self.now c.args.entity) c.of.result c.in_ok-table.table.now c.in_ok-table.row c.args.entity c.of.ensures.lent
    (subst (λ w. Stands (record_of w c.args.entity) c.in_ok-table.table.now c.in_ok-table.row) c.self.view_is c.in_ok-table.ensures.stands)
    c.in_ok-table.ensures.own
