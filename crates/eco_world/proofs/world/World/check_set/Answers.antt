use Rattle.eco_world.proofs.Common.{not, is_some, ◌∷◌, [], DeadId, NotData, TooWide, arity, fits, names_living, err_from_is_err_and}
use Rattle.eco_world.proofs.Setting.{unsettable}
use Rattle.eco_world.proofs.world.World.check_set.Goals as goal

pub returns-in_err-check_holder-clause-err : goal.returns-in_err-check_holder-clause-err
returns-in_err-check_holder-clause-err c =
    let p = err_from_is_err_and c.from_residual.result c.from_residual.ensures.1 in
    rw (p.1, p.2) (record {
      first = c.in_err-check_holder.ensures.err.first
          ((not (names_living c.args.self.now c.args.id), DeadId) ∷ (not (is_some (arity c.args.self.now c.args.id)), NotData) ∷
          (not (fits c.args.self.now c.args.id c.args.value), TooWide) ∷ []);
      other = c.in_err-check_holder.ensures.err.other;
    })

pub returns-in_err-arity-clause-err : goal.returns-in_err-arity-clause-err
returns-in_err-arity-clause-err c =
    let p = err_from_is_err_and c.from_residual-in_err-arity.result c.from_residual-in_err-arity.ensures.1 in
    let may = c.in_ok-check_holder.ensures.ok in
    rw (p.1, p.2)
    (unsettable c.args.self.now c.args.entity c.args.id c.args.value may.0 may.1 c.in_err-arity.field-0.0 c.in_err-arity.ensures.err)
