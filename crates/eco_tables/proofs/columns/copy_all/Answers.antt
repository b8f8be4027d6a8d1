use Rattle.eco_tables.proofs.Common.{contents, map, [], ◌∷◌, ap, ◌∙◌, map-append, take_all}
use Rattle.eco_tables.proofs.Copies.{pushed_more}
use Rattle.eco_tables.proofs.columns.copy_all.Goals as goal

pub loop-column-preserved : goal.loop-column-preserved
loop-column-preserved c =
    ap (map contents) c.in_ok-push.ensures.items ∙ map-append contents c.loop-column.copies.items (c.in_ok-copy.copy ∷ [])
    ∙ pushed_more contents c.args.columns.now c.loop-column.column-index c.column-item.result (map contents c.loop-column.copies.items)
    (contents c.in_ok-copy.copy) c.loop-column-test.true c.loop-column.invariant (c.in_ok-copy.ensures ∙ ap contents c.column-item.is)

pub returns : goal.returns
returns c =
    c.loop-column.invariant ∙ ap (map contents) (take_all c.loop-column.column-index c.args.columns.now c.loop-column-test.false)
