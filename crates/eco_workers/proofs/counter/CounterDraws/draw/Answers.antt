use Rattle.eco_workers.proofs.Common.{refl}
use Rattle.eco_workers.proofs.Turns.{drawn_more}
use Rattle.eco_workers.proofs.counter.CounterDraws.draw.Goals as goal

pub returns-clause-ok : goal.returns-clause-ok
returns-clause-ok c = (drawn_more c.args.self.now.base c.args.self.now.next c.args.self.now.rises, refl)
