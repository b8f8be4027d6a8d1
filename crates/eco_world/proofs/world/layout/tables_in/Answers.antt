use Rattle.eco_world.proofs.Common.{[], ◌∷◌, ◌++◌, ◌∙◌, ap, get_or, map, subst, sym, take, map-append, take_more, All-push, IsWhole, lent}
use Rattle.eco_world.proofs.Common.{lent_at}
use Rattle.std.proofs.Common.{All}
use Rattle.eco_world.proofs.world.layout.tables_in.Goals as goal

pub loop-slot-preserved : goal.loop-slot-preserved
loop-slot-preserved c =
    let xs = c.loop-slot.found.items in
    let row = c.table_in-table.result in
    let slots = c.args.slots.now in
    let at = c.loop-slot.slot-index in
    let one = lent_at c.args.world.now c.args.tables.now in
    let more = c.push_reserved.ensures.items in (
      ap (map lent) more ∙ map-append lent xs (row ∷ []) ∙ ap (λ ys. ys ++ lent row ∷ []) c.loop-slot.invariant.0
          ∙ ap (λ y. map one (take at slots) ++ y ∷ []) c.table_in-table.ensures.lent
          ∙ sym (ap (map one) (take_more slots at 0 c.loop-slot-test.true) ∙ map-append one (take at slots) (get_or slots at 0 ∷ [])),
      subst (All IsWhole) (sym more) (All-push IsWhole xs row c.loop-slot.invariant.1 c.table_in-table.ensures.whole),
    )
