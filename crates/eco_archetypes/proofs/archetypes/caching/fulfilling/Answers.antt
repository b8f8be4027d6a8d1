use Rattle.eco_archetypes.proofs.Cached.{noted, noted_none}
use Rattle.eco_archetypes.proofs.archetypes.caching.fulfilling.Goals as goal

pub loop-slot-init : goal.loop-slot-init
loop-slot-init c = rw c.new-slots.ensures.empty (noted_none c.args.tables.now c.args.query.now)

pub loop-slot-preserved : goal.loop-slot-preserved
loop-slot-preserved c =
    noted c.args.tables.now c.loop-slot.slot c.args.query.now c.loop-slot.slots.keys c.note.new.slots.keys c.is_fulfilled.result c.is_fulfilled.ensures
    c.in_ok-note.ensures c.loop-slot.invariant
