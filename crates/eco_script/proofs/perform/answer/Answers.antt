use Rattle.eco_script.proofs.Common.{refl, subst, KeepsTo, step_view}
use Rattle.eco_script.proofs.perform.answer.Goals as goal

pub component-requires : goal.component-requires
component-requires g c = subst (λ s. KeepsTo c.args.world.now.edition (step_view s)) c.in-Component.is c.requires.keeps

pub returns-in-Change : goal.returns-in-Change
returns-in-Change g c = rw c.in-Change.is (c.change.ensures, refl)

pub returns-in-Merge : goal.returns-in-Merge
returns-in-Merge g c = rw c.in-Merge.is (c.merge.ensures, refl)
