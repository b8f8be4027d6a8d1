use Rattle.eco_frame.proofs.Done.{if_done}
use Rattle.eco_frame.proofs.Joins.{joins_open}
use Rattle.eco_frame.proofs.open_batch.Batch.add.Goals as goal

pub returns : goal.returns
returns c =
    if_done
    (λ made. joins_open c.args.outlines.now c.args.self.now
    (record { places = c.push.new.self; kills = c.kills_with-self.result; written = c.add_all.new.self }) c.args.at c.closed.result.now
    c.in_ok-push.ensures.items c.kills_with-self.ensures made c.closed.ensures)
    c.add_all.result c.add_all.ensures
