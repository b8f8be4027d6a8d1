use Rattle.eco_world.proofs.Common.{◌≡◌, sym, ◌∙◌, Ok, Err, MatchBool, subst, err_from_is_err_and, Sets, changed, with_value}
use Rattle.eco_world.proofs.Extending.{IsSetAfter, extended, refused_after, set_after}
use Rattle.eco_world.proofs.Fitting.{written_fits}
use Rattle.eco_world.proofs.world.World.set_absent.Goals.{In_ok-gain_absent}
use Rattle.eco_world.proofs.world.World.set_absent.Goals as goal

pub returns-in_err-gain_absent : goal.returns-in_err-gain_absent
returns-in_err-gain_absent c =
    let p = err_from_is_err_and c.from_residual.result c.from_residual.ensures.1 in
    rw (p.1, p.2)
    (refused_after c.args.self.now c.args.entity c.args.id c.args.value.now c.requires.may c.is_lawful.ensures
    (c.steps_keep_lawful.ensures.set c.args.entity c.args.id c.args.value.now) c.requires.absent c.in_err-gain_absent.field-0.0 c.gain_absent.new.self
    (extended c.args.self.now c.args.entity c.args.id c.args.value.now c.requires.may c.requires.absent
    (Err c.in_err-gain_absent.field-0.0) c.gain_absent.new.self c.in_err-gain_absent.ensures))

-- where the id was added, the write makes it a set
after : (c : goal.In_ok-gain_absent) → IsSetAfter c.args.self.now c.args.entity c.args.id c.args.value.now c.gain_absent.new.self
after c =
    set_after c.args.self.now c.args.entity c.args.id c.args.value.now c.requires.may c.is_lawful.ensures
    (c.steps_keep_lawful.ensures.set c.args.entity c.args.id c.args.value.now) c.requires.absent c.add_adds_once.ensures c.gain_absent.new.self
    (extended c.args.self.now c.args.entity c.args.id c.args.value.now c.requires.may c.requires.absent
    (Ok tt) c.gain_absent.new.self c.in_ok-gain_absent.ensures)

pub write-requires-clause-alive : goal.write-requires-clause-alive
write-requires-clause-alive c = (after (goal.at.write-requires-clause-alive c).In_ok-gain_absent).alive

pub write-requires-clause-lawful : goal.write-requires-clause-lawful
write-requires-clause-lawful c = λ there. (after (goal.at.write-requires-clause-lawful c).In_ok-gain_absent).lawful

pub write-requires-clause-fits : goal.write-requires-clause-fits
write-requires-clause-fits c =
    let done = after (goal.at.write-requires-clause-fits c).In_ok-gain_absent in
    written_fits c.gain_absent.new.self c.args.entity c.args.id c.args.value.now done.there done.lawful

pub returns : goal.returns
returns c =
    let done = after (goal.at.returns c).In_ok-gain_absent in
    let is : c.write.new.self ≡ changed c.gain_absent.new.self c.args.entity (with_value c.args.id c.args.value.now) =
    subst (λ b. MatchBool b (c.write.new.self ≡ changed c.gain_absent.new.self c.args.entity (with_value c.args.id c.args.value.now))
    (c.write.new.self ≡ c.gain_absent.new.self)) (c.write.ensures.had ∙ done.there) c.write.ensures.written in
    subst (λ w. Sets c.args.self.now c.args.entity c.args.id c.args.value.now (Ok tt) w) (sym is) done.sets
