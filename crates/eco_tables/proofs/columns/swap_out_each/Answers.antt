use Rattle.eco_tables.proofs.Common.{◌<◌, arith, length, refl, with_removed}
use Rattle.eco_tables.proofs.Held.{mapped_all, mapped_more, not_yet_all}
use Rattle.eco_tables.proofs.columns.swap_out_each.Goals as goal

pub swap_out-requires : goal.swap_out-requires
swap_out-requires c =
    not_yet_all (λ x. c.args.row < length x.values) (λ x. with_removed x c.args.row) c.args.columns.now c.loop-column.columns c.loop-column.column-index
    c.column-item.result (omega arith) c.loop-column.invariant c.requires

pub loop-column-init : goal.loop-column-init
loop-column-init c = refl

pub loop-column-preserved : goal.loop-column-preserved
loop-column-preserved c =
    mapped_more (λ x. with_removed x c.args.row) c.args.columns.now c.loop-column.columns c.loop-column.column-index c.column-item.result c.swap_out.new.self
    (omega arith)
    c.loop-column.auto.columns c.loop-column.invariant c.swap_out.ensures

pub returns : goal.returns
returns c =
    mapped_all (λ x. with_removed x c.args.row) c.args.columns.now c.loop-column.columns c.loop-column.column-index (omega arith) c.loop-column.invariant
