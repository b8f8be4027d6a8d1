use Rattle.eco_tables.proofs.Common.{◌<◌, arith, refl, zeros, pushed}
use Rattle.eco_tables.proofs.Held.{mapped_all, mapped_more, not_yet_all}
use Rattle.eco_tables.proofs.columns.push_zeros_each.Goals as goal

pub push_zeros-requires : goal.push_zeros-requires
push_zeros-requires c =
    not_yet_all (λ x. 0 < x.room) (λ x. pushed x zeros) c.args.columns.now c.loop-column.columns c.loop-column.column-index
    c.column-item.result (omega arith) c.loop-column.invariant c.requires

pub loop-column-init : goal.loop-column-init
loop-column-init c = refl

pub loop-column-preserved : goal.loop-column-preserved
loop-column-preserved c =
    mapped_more (λ x. pushed x zeros) c.args.columns.now c.loop-column.columns c.loop-column.column-index c.column-item.result c.push_zeros.new.self
    (omega arith) c.loop-column.auto.columns c.loop-column.invariant c.push_zeros.ensures

pub returns : goal.returns
returns c =
    mapped_all (λ x. pushed x zeros) c.args.columns.now c.loop-column.columns c.loop-column.column-index (omega arith) c.loop-column.invariant
