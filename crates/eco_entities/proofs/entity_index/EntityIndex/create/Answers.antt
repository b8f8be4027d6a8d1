use Rattle.eco_entities.proofs.Common.{◌≡◌, rules, option_copied, Err, Some, unfit_name, given_name}
use Rattle.eco_entities.proofs.Renaming.{checked, makes_refused}
use Rattle.eco_entities.proofs.entity_index.EntityIndex.create.Goals as goal

pub returns-in_err-check_name-in-None : goal.returns-in_err-check_name-in-None
returns-in_err-check_name-in-None c =
    let why : unfit_name given_name c.args.self.now (option_copied c.args.name) ≡ Some c.in_err-check_name-in-None.field-0.0 =
    checked _ c.check_name.result c.in_err-check_name-in-None.field-0.0 c.check_name.ensures c.in_err-check_name-in-None.was in
    let is : c.from_residual.result ≡ Err c.in_err-check_name-in-None.field-0.0 = search rules in
    rw is (makes_refused c.args.self.now (option_copied c.args.name) c.args.arity _ c.in_err-check_name-in-None.field-0.0 why)
