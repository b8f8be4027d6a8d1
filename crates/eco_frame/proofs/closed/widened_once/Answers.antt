use Rattle.eco_frame.proofs.BatchesCommon.{ap, ◌∙◌, map, take_all, unrepeated, key_pattern}
use Rattle.eco_frame.proofs.Once.{keyed_more}
use Rattle.eco_systems.specs.Writes as writes
use Rattle.eco_frame.proofs.closed.widened_once.Goals as goal

pub loop-key-preserved : goal.loop-key-preserved
loop-key-preserved g c =
    keyed_more (writes.widened (g.H.Holdings.world c.args.holdings.now)) c.args.keys.now c.loop-key.key-index _ c.loop-key.all.keys c.insert.new.self.keys
    (record { pattern = c.widened.result }) c.loop-key-test.true c.loop-key.invariant c.widened.ensures c.in_ok-insert.ensures.keys

pub returns : goal.returns
returns g c =
    c.loop-key.invariant
    ∙ ap (λ ks. unrepeated (map (writes.widened (g.H.Holdings.world c.args.holdings.now)) (map key_pattern ks)))
    (take_all c.loop-key.key-index c.args.keys.now c.loop-key-test.false)
