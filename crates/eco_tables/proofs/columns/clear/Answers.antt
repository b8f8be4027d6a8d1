use Rattle.eco_tables.proofs.Common.{arith, emptied}
use Rattle.eco_tables.proofs.Held.{mapped_more}
use Rattle.eco_tables.proofs.columns.clear.Goals as goal

pub loop-column-preserved : goal.loop-column-preserved
loop-column-preserved c =
    mapped_more emptied c.args.columns.now c.loop-column.columns c.loop-column.column-index c.column-item.result c.clear.new.self (omega arith)
    c.loop-column.auto.columns c.loop-column.invariant c.clear.ensures
