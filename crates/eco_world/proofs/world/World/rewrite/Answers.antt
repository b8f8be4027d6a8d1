use Rattle.eco_world.proofs.Common.{refl}
use Rattle.eco_world.proofs.Extending.{lawful_there}
use Rattle.eco_world.proofs.Setting.{known_kept, others_kept}
use Rattle.eco_world.proofs.world.World.rewrite.Goals as goal

pub write-requires-clause-lawful : goal.write-requires-clause-lawful
write-requires-clause-lawful c =
    lawful_there c.args.self.now c.args.entity c.args.id c.args.value (c.if-not-may_rewrite.ensures.yes refl) c.is_lawful.ensures
    (c.steps_keep_lawful.ensures.set c.args.entity c.args.id c.args.value)

pub returns-clause-known : goal.returns-clause-known
returns-clause-known c =
    known_kept c.args.self.now c.args.entity c.args.id c.args.value c.write.new.self c.args.known c.requires c.write.result c.write.ensures.written

pub returns-clause-others : goal.returns-clause-others
returns-clause-others c =
    others_kept c.args.self.now c.args.entity c.args.id c.args.value c.write.new.self c.write.result c.write.ensures.written
