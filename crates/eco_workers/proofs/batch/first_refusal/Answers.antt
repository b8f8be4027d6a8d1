use Rattle.eco_workers.proofs.Common.{take, ends_of}
use Rattle.eco_workers.proofs.Stops.{found_none, found_more, stop_refused, stop_full, none_stopped}
use Rattle.eco_workers.proofs.batch.first_refusal.Goals as goal

pub loop-one-init : goal.loop-one-init
loop-one-init c = found_none

pub loop-one-preserved : goal.loop-one-preserved
loop-one-preserved c = found_more c.args.worked.now c.loop-one.one-index c.one-item.result c.found.result.0 c.found.result.1 c.loop-one-test.true
    c.one-item.is (c.found.ensures (ends_of (take c.loop-one.one-index c.args.worked.now)) c.loop-one.invariant)

pub returns-in-Some-clause-some : goal.returns-in-Some-clause-some
returns-in-Some-clause-some c = stop_refused c.args.worked.now c.loop-one.one-index c.loop-one.least c.loop-one.full (c.in-Some.field-0-0, c.in-Some.refusal)
    c.loop-one-test.false c.in-Some.is c.loop-one.invariant

pub returns-in-None-clause-some : goal.returns-in-None-clause-some
returns-in-None-clause-some c = stop_full c.args.worked.now c.loop-one.one-index c.loop-one.least c.loop-one.full c.loop-one-test.false
    c.in-None.is c.if-full.true c.loop-one.invariant

pub returns-in-None-2-clause-none : goal.returns-in-None-2-clause-none
returns-in-None-2-clause-none c = none_stopped c.args.worked.now c.loop-one.one-index c.loop-one.least c.loop-one.full c.loop-one-test.false
    c.in-None-2.is c.if-full.false c.loop-one.invariant
