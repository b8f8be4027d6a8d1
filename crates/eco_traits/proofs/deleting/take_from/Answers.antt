use Rattle.eco_traits.proofs.OnlyHeld.{holder_lives, still_alive, taken_from}
use Rattle.eco_traits.proofs.deleting.take_from.Goals as goal

pub step-requires : goal.step-requires
step-requires g c = holder_lives (g.S.Population.entities c.args.store.now) c.args.only c.requires.only

pub take_out-requires : goal.take_out-requires
take_out-requires g c = still_alive (g.S.Population.entities c.args.store.now) c.args.only c.requires.only c.requires.alive _ c.in_ok-step.ensures.ok

pub returns-clause-ok : goal.returns-clause-ok
returns-clause-ok g c =
    taken_from (g.S.Population.entities c.args.store.now) c.args.only c.requires.only c.requires.alive _ _ c.in_ok-step.ensures.ok c.take_out.ensures
