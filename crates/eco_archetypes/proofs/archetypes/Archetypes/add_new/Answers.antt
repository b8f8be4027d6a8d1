use Rattle.eco_archetypes.proofs.Common.{arith, sym, take, ◌∙◌, common_steps, err_says, group_at}
use Rattle.eco_archetypes.proofs.Searching.{new_found}
use Rattle.eco_archetypes.proofs.archetypes.Archetypes.add_new.Goals as goal

pub returns-in_err-put_behind-clause-some : goal.returns-in_err-put_behind-clause-some
returns-in_err-put_behind-clause-some g c =
    err_says c.from_residual.result
    (new_found (g.T.TypeTest.test c.args.test.now) (take c.args.place (group_at (g.T.TypeTest.groups c.args.test.now) c.args.group)) c.args.self.now _
    (sym c.is_new.ensures ∙ c.if-is_new.true))

pub loop-slot-preserved : goal.loop-slot-preserved
loop-slot-preserved g c = grind (arith, common_steps)

pub returns-clause-ok : goal.returns-clause-ok
returns-clause-ok g c = grind (arith, common_steps)
