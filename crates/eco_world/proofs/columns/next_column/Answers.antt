use Rattle.eco_world.proofs.Common.{All, arith, subst, suc}
use Rattle.eco_world.specs.Columns.{KeepsColumn}
use Rattle.eco_world.proofs.columns.next_column.Goals as goal

pub returns-clause-kept : goal.returns-clause-kept
returns-clause-kept c =
    let whole = subst (All (KeepsColumn c.args.tables.now c.args.id)) c.in_ok-slot.ensures.steps c.requires in
    record { keep = λ k d lt. whole (suc k) d (omega (arith, lt)); none = tt }
