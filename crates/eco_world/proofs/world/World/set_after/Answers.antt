use Rattle.eco_world.proofs.Common.{sym, ap, ◌∙◌, subst, IfSome, Meets, Sets, may_set, has, MaySet, IsSettable}
use Rattle.eco_world.proofs.Extending.{lawful_there}
use Rattle.eco_world.proofs.Setting.{known_still}
use Rattle.eco_world.proofs.world.World.set_after.Goals as goal

pub write-requires-clause-lawful : goal.write-requires-clause-lawful
write-requires-clause-lawful c =
    lawful_there c.args.self.now c.args.entity c.args.id c.args.value c.in_ok-check_set.ensures.ok c.is_lawful.ensures
    (c.steps_keep_lawful.ensures.set c.args.entity c.args.id c.args.value)

pub returns-then-write-clause-known : goal.returns-then-write-clause-known
returns-then-write-clause-known c =
    subst (λ w. IfSome c.check_set.new.known (IsSettable w c.args.id)) (sym c.if-write.ensures.written)
    (known_still c.args.self.now c.args.entity c.args.id c.args.value c.check_set.new.known c.check_set.ensures.known)

pub set_absent-requires-clause-may : goal.set_absent-requires-clause-may
set_absent-requires-clause-may c =
    subst (λ w. MaySet w c.args.entity c.args.id c.args.value) (sym c.if-write.ensures.written) c.in_ok-check_set.ensures.ok

pub set_absent-requires-clause-absent : goal.set_absent-requires-clause-absent
set_absent-requires-clause-absent c =
    ap (λ w. has w c.args.entity c.args.id) c.if-write.ensures.written ∙ sym c.if-write.ensures.had

pub returns-clause-met : goal.returns-clause-met
returns-clause-met c =
    subst (λ w. Meets (Sets w c.args.entity c.args.id c.args.value) (may_set w c.args.entity c.args.id c.args.value) w
    c.set_absent.result c.set_absent.new.self) c.if-write.ensures.written c.set_absent.ensures
