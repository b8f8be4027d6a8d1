use Rattle.eco_world.proofs.Common.{List, Ok, sym, ◌∙◌, subst, IsLawful, Id, Adds, changed, with_type, FindsTarget, FindsType, TakesOwn}
use Rattle.eco_traits.specs.Target.{target_by}
use Rattle.eco_world.proofs.Changes.{exchanged_in, toggled_in}
use Rattle.eco_world.proofs.Extending.{IsGrown, found_other}
use Rattle.eco_world.proofs.Mirroring.{lone, other}
use Rattle.eco_world.proofs.world.World.extend.Goals.{In_default}
use Rattle.eco_world.proofs.world.World.extend.Goals as goal

pub extend_both-requires-clause-mirror : goal.extend_both-requires-clause-mirror
extend_both-requires-clause-mirror c = other c.args.self.now c.args.entity c.args.id _ _ c.in-Some.is c.other_mirror.ensures

-- where nobody else has a mirror, the entity goes to the type that was found
alone : (c : goal.In_default) (ids : List Id) → FindsType c.args.self.now c.args.entity c.args.id (Ok ids)
    → IsGrown c.args.self.now c.args.entity c.args.id (changed c.args.self.now c.args.entity (with_type ids))
alone c ids finds =
    found_other c.args.self.now c.args.entity c.args.id c.requires.alive c.requires.free c.is_lawful.ensures
    (c.steps_keep_lawful.ensures.add c.args.entity c.args.id) c.add_leaves_exactly.ensures c.requires.absent ids finds
    (lone c.args.self.now c.args.entity c.args.id _ c.in_default.is c.other_mirror.ensures)

pub step-requires-clause-lawful : goal.step-requires-clause-lawful
step-requires-clause-lawful c =
    subst IsLawful (sym (toggled_in c.args.self.now c.args.entity c.args.id c.requires.absent))
    (alone (goal.at.step-requires-clause-lawful c).In_default _
    (subst (λ o. FindsTarget c.args.self.now c.args.entity c.args.id (Ok (target_by o))) c.in-Some-None.field-0-is c.in-Some-None.ensures.target)).lawful

pub returns-in_ok-step-in-Some-None : goal.returns-in_ok-step-in-Some-None
returns-in_ok-step-in-Some-None c =
    subst (λ new. Adds c.args.self.now c.args.entity c.args.id (Ok tt) new)
    (sym (c.in_ok-step-in-Some-None.ensures.ok ∙ toggled_in c.args.self.now c.args.entity c.args.id c.requires.absent))
    (alone (goal.at.returns-in_ok-step-in-Some-None c).In_default _
    (subst (λ o. FindsTarget c.args.self.now c.args.entity c.args.id (Ok (target_by o))) c.in-Some-None.field-0-is c.in-Some-None.ensures.target)).adds

pub exchange-requires-clause-there : goal.exchange-requires-clause-there
exchange-requires-clause-there c =
    subst (λ o. TakesOwn c.args.self.now c.args.entity (target_by o)) c.in-Some-Some.field-0-is c.in-Some-Some.ensures.there

pub exchange-requires-clause-lawful : goal.exchange-requires-clause-lawful
exchange-requires-clause-lawful c =
    subst IsLawful (sym (exchanged_in c.args.self.now c.args.entity c.in-Some-Some.old c.args.id))
    (alone (goal.at.exchange-requires-clause-lawful c).In_default _
    (subst (λ o. FindsTarget c.args.self.now c.args.entity c.args.id (Ok (target_by o))) c.in-Some-Some.field-0-is c.in-Some-Some.ensures.target)).lawful

pub returns-in_ok-exchange-in-Some-Some : goal.returns-in_ok-exchange-in-Some-Some
returns-in_ok-exchange-in-Some-Some c =
    subst (λ new. Adds c.args.self.now c.args.entity c.args.id (Ok tt) new)
    (sym (c.in_ok-exchange-in-Some-Some.ensures.ok ∙ exchanged_in c.args.self.now c.args.entity c.in-Some-Some.old c.args.id))
    (alone (goal.at.returns-in_ok-exchange-in-Some-Some c).In_default _
    (subst (λ o. FindsTarget c.args.self.now c.args.entity c.args.id (Ok (target_by o))) c.in-Some-Some.field-0-is c.in-Some-Some.ensures.target)).adds

pub extend_by_closure-requires-clause-alone : goal.extend_by_closure-requires-clause-alone
extend_by_closure-requires-clause-alone c = lone c.args.self.now c.args.entity c.args.id _ c.in_default.is c.other_mirror.ensures
