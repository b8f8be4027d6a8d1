use Rattle.eco_tables.proofs.Common.{◌≤◌, arith, ap, ◌∙◌, refl, contents, All-set}
use Rattle.eco_tables.proofs.Held.{contents_kept}
use Rattle.eco_tables.proofs.columns.shrink.Goals as goal

pub shrink-requires : goal.shrink-requires
shrink-requires c = c.loop-column.invariant.room c.loop-column.column-index c.column-item.result (omega arith)

pub loop-column-init : goal.loop-column-init
loop-column-init c = record { same = refl; room = c.requires }

pub loop-column-preserved : goal.loop-column-preserved
loop-column-preserved c = record {
  same =
      contents_kept c.loop-column.columns c.loop-column.column-index c.column-item.result c.shrink.new.self (ap contents c.shrink.ensures.same)
      ∙ c.loop-column.invariant.same;
  room =
      All-set (λ x. c.args.room ≤ x.room) c.loop-column.columns c.loop-column.column-index c.shrink.new.self c.shrink.ensures.room
      c.loop-column.invariant.room;
}
