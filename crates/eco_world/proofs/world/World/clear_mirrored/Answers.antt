use Rattle.eco_world.proofs.Common.{ap, sym, ◌∙◌, goes_too, one_by_one, takes}
use Rattle.eco_world.specs.declared.loss.Loss.TheVariants.{All}
use Rattle.eco_world.proofs.Losing.{cleared_all}
use Rattle.eco_world.proofs.world.World.clear_mirrored.Goals as goal

pub lose-requires-clause-losers : goal.lose-requires-clause-losers
lose-requires-clause-losers c =
    let w = c.args.self.now in
    let e = c.args.entity in
    cleared_all w e c.is_lawful.ensures c.requires.alive
    ∙ ap (one_by_one (goes_too w (takes (All e))) w) (sym (c.deref.ensures.value ∙ c.in_ok-losers.ensures))
