use Rattle.eco_index.proofs.EntriesCommon.{◌≡◌, drop, ◌-◌, ◌<◌, length, ap, sym, ◌∙◌, arith, rules, choices, asks}
use Rattle.eco_index.proofs.Only.{last_choices}
use Rattle.eco_index.proofs.product.choices_of.Goals as goal

pub loop-left-init : goal.loop-left-init
loop-left-init c =
    let slots = c.args.slots.now in
    let some : 0 < length slots = search (rules, arith) in
    let one : 1 ≡ length slots - (length slots - 1) = omega (arith, some) in
    record {
      within = omega arith;
      made = c.each-choices.ensures
          ∙ ap (λ ds. record { width = 1; all = ds })
          (last_choices c.args.ids.now slots (length slots - 1) c.index-slots-left.result c.in_ok-own_entries.field-0.items (omega (arith, some))
          (sym c.index-slots-left.is) c.in_ok-own_entries.ensures)
          ∙ ap (λ w. record { width = w; all = choices c.args.ids.now (asks (drop (length slots - 1) slots)) }) one;
    }
